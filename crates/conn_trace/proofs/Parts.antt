-- What stands at the front of a stream stays, whatever follows, and lies in it.
use Rattle.std.proofs.Common.{◌≡◌, refl, sym, ap, subst, ◌∙◌, ℕ, zero, suc, ◌+◌, ◌-◌, ◌≤◌, Bool, true, false, List, [], ◌∷◌, ◌++◌, length, take, drop, nat_le, if◌then◌else◌, Option, Some, None, arith}
use Rattle.std.proofs.Common.{◌&&◌, ◌==◌}
use Rattle.std.specs.Prelude.{⊤}
use Rattle.std.proofs.lemmas.List.{length-drop, length-take, drop-append-le, take-append-le, length-append}
use Rattle.std.proofs.lemmas.Bool.{leb-true, le-leb}
use Rattle.memchr.specs.Find.{FindsNeedle, first_of, matches}
use Rattle.memchr.proofs.lemmas.ValueLemmas.{FindsNeedle-value}
use Rattle.seg_buffer.specs.Bytes.{crlf2}
use Rattle.http_frames.specs.Parts.{Part, Byte, Chunk, End, Pending, Bad, PartStays, part_of}
use Rattle.http_frames.specs.declared.state.BodyState.{BodyState}
use Rattle.seg_buffer.proofs.Places.{place_is, still_found}
use Rattle.http_frames.proofs.PartsStay.{parts_stay}
use Rattle.http_heads.proofs.LookedHeads.{blank_few}
use Rattle.http_heads.specs.Fronts.{blank_length, head_limit, headless, head_by, head_part}
use Rattle.http_heads.specs.declared.front.HeadPart.{HeadPart}
use Rattle.http_heads.specs.declared.front.HeadPart.TheVariants.{HeadOf, StreamEnds, Faulty, NoHead}
use Rattle.seg_buffer.specs.Bytes.{is_empty}
use Rattle.conn_trace.specs.State.{Stream}
use Rattle.conn_trace.proofs.Streams.{Grown, stream}

-- ---- parts of bodies

part_same : (p : Part) → PartStays p p
part_same Byte = refl
part_same (Chunk n size) = refl
part_same (End n) = refl
part_same Pending = tt
part_same (Bad f) = refl

part_by_end : (s : BodyState) (t t' : Stream) (b : Bool) → t.ended ≡ b → Grown t t' → PartStays (part_of s t.unread t.ended) (part_of s t'.unread t'.ended)
part_by_end s t t' true is g = subst (λ x. PartStays (part_of s t.unread t.ended) (part_of s x.unread x.ended)) (sym (g.ended is)) (part_same (part_of s t.unread t.ended))
part_by_end s t t' false is g =
    subst (λ e. PartStays (part_of s t.unread e) (part_of s t'.unread t'.ended)) (sym is)
    (subst (λ u. PartStays (part_of s t.unread false) (part_of s u t'.ended)) (sym g.unread) (parts_stay s t.unread g.more t'.ended))

pub part_grown : (s : BodyState) (t t' : Stream) → Grown t t' → PartStays (part_of s t.unread t.ended) (part_of s t'.unread t'.ended)
part_grown s t t' g = part_by_end s t t' t.ended refl g

-- ---- heads

abbrev pub HeadStays : HeadPart → HeadPart → Type 0
HeadStays (HeadOf n) q = q ≡ HeadOf n
HeadStays StreamEnds q = q ≡ StreamEnds
HeadStays (Faulty f) q = q ≡ Faulty f
HeadStays NoHead q = ⊤

head_same : (p : HeadPart) → HeadStays p p
head_same (HeadOf n) = refl
head_same StreamEnds = refl
head_same (Faulty f) = refl
head_same NoHead = tt

blank_stays : (text more : List ℕ) → 2 ≤ length (drop (blank_length text) text) → blank_length (text ++ more) ≡ blank_length text
blank_stays [] more some = absurd (omega (arith, some))
blank_stays (x ∷ []) more some = absurd (omega (arith, some))
blank_stays (x ∷ y ∷ rest) more some = by_test (x == 13 && y == 10) (blank_stays rest more) some
  where
    by_test : (b : Bool) → (2 ≤ length (drop (blank_length rest) rest) → blank_length (rest ++ more) ≡ blank_length rest) → 2 ≤ length (drop (if b then 2 + blank_length rest else 0) (x ∷ y ∷ rest))
        → (if b then 2 + blank_length (rest ++ more) else 0) ≡ (if b then 2 + blank_length rest else 0)
    by_test true on some = ap (λ n. 2 + n) (on (let all = length-drop (2 + blank_length rest) (x ∷ y ∷ rest) in let same = length-drop (blank_length rest) rest in omega (arith, some, all, same)))
    by_test false on some = refl

module _ (front more : List ℕ) where
  abbrev rest : List ℕ
  rest = drop (blank_length front) front

  rest_longer : (k : ℕ) → first_of (matches rest crlf2 0) ≡ Some k → drop (blank_length (front ++ more)) (front ++ more) ≡ rest ++ more
  rest_longer k found =
      let there : FindsNeedle rest crlf2 0 (Some k) = subst (FindsNeedle rest crlf2 0) found (place_is rest) in
      let fits = there.1.fits in
      ap (λ n. drop n (front ++ more)) (blank_stays front more (omega (arith, fits))) ∙ drop-append-le (blank_length front) front more (blank_few front)

  blank_longer : (k : ℕ) → first_of (matches rest crlf2 0) ≡ Some k → blank_length (front ++ more) ≡ blank_length front
  blank_longer k found =
      let there : FindsNeedle rest crlf2 0 (Some k) = subst (FindsNeedle rest crlf2 0) found (place_is rest) in
      let fits = there.1.fits in blank_stays front more (omega (arith, fits))

  found_longer : (k : ℕ) → first_of (matches rest crlf2 0) ≡ Some k → first_of (matches (drop (blank_length (front ++ more)) (front ++ more)) crlf2 0) ≡ Some k
  found_longer k found =
      let there : FindsNeedle rest crlf2 0 (Some k) = subst (FindsNeedle rest crlf2 0) found (place_is rest) in
      ap (λ t. first_of (matches t crlf2 0)) (rest_longer k found) ∙ sym (FindsNeedle-value (rest ++ more) crlf2 (Some k) (still_found rest more k there))

take_joined : {A : Type 0} → (n : ℕ) (xs ys : List A) → take n (xs ++ ys) ≡ take n xs ++ take (n - length xs) ys
take_joined zero xs ys = ap (λ n. take n ys) (let z : 0 ≡ 0 - length xs = omega arith in z)
take_joined (suc n) [] ys = ap (λ k. take k ys) (let z : suc n ≡ suc n - 0 = omega arith in z)
take_joined (suc n) (x ∷ xs) ys =
    let less : n - length xs ≡ suc n - length (x ∷ xs) = omega arith in
    ap (λ r. x ∷ r) (take_joined n xs ys) ∙ ap (λ k. x ∷ take n xs ++ take k ys) less

abbrev front_of : List ℕ → List ℕ
front_of unread = take head_limit unread

abbrev place_in : List ℕ → Option ℕ
place_in front = first_of (matches (drop (blank_length front) front) crlf2 0)

abbrev head_in : List ℕ → (long ended : Bool) → HeadPart
head_in front long ended = head_by (blank_length front) (place_in front) long ended (is_empty (drop (blank_length front) front))

head_open : (held more : List ℕ) (ended : Bool) → HeadStays (head_part held false) (head_part (held ++ more) ended)
head_open held more ended = by_place (place_in (front_of held)) refl
  where
    extra : List ℕ
    extra = take (head_limit - length held) more

    front_is : front_of (held ++ more) ≡ front_of held ++ extra
    front_is = take_joined head_limit held more

    by_long : (long : Bool) → place_in (front_of held) ≡ None → nat_le head_limit (length held) ≡ long → HeadStays (headless long false (is_empty (drop (blank_length (front_of held)) (front_of held)))) (head_part (held ++ more) ended)
    by_long false none is = tt
    by_long true none is =
        let all = leb-true head_limit (length held) is in
        let longer : nat_le head_limit (length (held ++ more)) ≡ true = le-leb head_limit (length (held ++ more)) (let size = length-append held more in omega (arith, all, size)) in
        ap (λ front. head_in front (nat_le head_limit (length (held ++ more))) ended) (take-append-le head_limit held more all)
        ∙ (ap (λ long. head_in (front_of held) long ended) longer
        ∙ ap (λ p. head_by (blank_length (front_of held)) p true ended (is_empty (drop (blank_length (front_of held)) (front_of held)))) none)

    by_place : (p : Option ℕ) → place_in (front_of held) ≡ p → HeadStays (head_by (blank_length (front_of held)) p (nat_le head_limit (length held)) false (is_empty (drop (blank_length (front_of held)) (front_of held)))) (head_part (held ++ more) ended)
    by_place None is = by_long (nat_le head_limit (length held)) is refl
    by_place (Some k) is =
        let long = nat_le head_limit (length (held ++ more)) in
        ap (λ front. head_in front long ended) front_is
        ∙ (ap (λ p. head_by (blank_length (front_of held ++ extra)) p long ended (is_empty (drop (blank_length (front_of held ++ extra)) (front_of held ++ extra)))) (found_longer (front_of held) extra k is)
        ∙ ap (λ n. HeadOf (n + k + 4)) (blank_longer (front_of held) extra k is))

head_by_end : (t t' : Stream) (b : Bool) → t.ended ≡ b → Grown t t' → HeadStays (head_part t.unread t.ended) (head_part t'.unread t'.ended)
head_by_end t t' true is g = subst (λ x. HeadStays (head_part t.unread t.ended) (head_part x.unread x.ended)) (sym (g.ended is)) (head_same (head_part t.unread t.ended))
head_by_end t t' false is g =
    subst (λ e. HeadStays (head_part t.unread e) (head_part t'.unread t'.ended)) (sym is)
    (subst (λ u. HeadStays (head_part t.unread false) (head_part u t'.ended)) (sym g.unread) (head_open t.unread g.more t'.ended))

pub head_grown : (t t' : Stream) → Grown t t' → HeadStays (head_part t.unread t.ended) (head_part t'.unread t'.ended)
head_grown t t' g = head_by_end t t' t.ended refl g

abbrev pub HeadIn : List ℕ → HeadPart → Type 0
HeadIn held (HeadOf n) = n ≤ length held
HeadIn held p = ⊤

headless_in : (held : List ℕ) (long ended empty : Bool) → HeadIn held (headless long ended empty)
headless_in held true ended empty = tt
headless_in held false true true = tt
headless_in held false true false = tt
headless_in held false false empty = tt

pub head_inside : (held : List ℕ) (ended : Bool) → HeadIn held (head_part held ended)
head_inside held ended = by_place (place_in (front_of held)) refl
  where
    by_place : (p : Option ℕ) → place_in (front_of held) ≡ p → HeadIn held (head_by (blank_length (front_of held)) p (nat_le head_limit (length held)) ended (is_empty (drop (blank_length (front_of held)) (front_of held))))
    by_place None is = headless_in held (nat_le head_limit (length held)) ended (is_empty (drop (blank_length (front_of held)) (front_of held)))
    by_place (Some k) is =
        let text = drop (blank_length (front_of held)) (front_of held) in
        let there : FindsNeedle text crlf2 0 (Some k) = subst (FindsNeedle text crlf2 0) is (place_is text) in
        let fits = there.1.fits in
        let all = length-drop (blank_length (front_of held)) (front_of held) in
        let few = blank_few (front_of held) in
        let front = length-take head_limit held in
        omega (arith, fits, all, few, front)

-- a head with the empty lines before it has at most 65,536 bytes
abbrev pub ShortHead : HeadPart → Type 0
ShortHead (HeadOf n) = n ≤ head_limit
ShortHead p = ⊤

headless_short : (long ended empty : Bool) → ShortHead (headless long ended empty)
headless_short true ended empty = tt
headless_short false true true = tt
headless_short false true false = tt
headless_short false false empty = tt

pub head_short : (held : List ℕ) (ended : Bool) → ShortHead (head_part held ended)
head_short held ended = by_place (place_in (front_of held)) refl
  where
    by_place : (p : Option ℕ) → place_in (front_of held) ≡ p → ShortHead (head_by (blank_length (front_of held)) p (nat_le head_limit (length held)) ended (is_empty (drop (blank_length (front_of held)) (front_of held))))
    by_place None is = headless_short (nat_le head_limit (length held)) ended (is_empty (drop (blank_length (front_of held)) (front_of held)))
    by_place (Some k) is =
        let text = drop (blank_length (front_of held)) (front_of held) in
        let there : FindsNeedle text crlf2 0 (Some k) = subst (FindsNeedle text crlf2 0) is (place_is text) in
        let fits = there.1.fits in
        let all = length-drop (blank_length (front_of held)) (front_of held) in
        let few = blank_few (front_of held) in
        let front = length-take head_limit held in
        omega (arith, fits, all, few, front)
