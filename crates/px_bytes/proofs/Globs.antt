-- How the pieces of a pattern take a text.
use Rattle.std.proofs.Common.{◌≡◌, ◌≢◌, ℕ, zero, suc, ◌+◌, ◌-◌, ◌<◌, ◌≤◌, ◌↔◌, Bool, true, false}
use Rattle.std.proofs.Common.{◌||◌, ◌==◌, cond, List, [], ◌∷◌, length, get_or, take, drop, Option}
use Rattle.std.proofs.Common.{Some, None, sym, ap, refl, subst, ◌∙◌, arith, add-one}
use Rattle.std.proofs.lemmas.Bool.{false≢true, ne_eqb}
use Rattle.std.proofs.lemmas.Bool.Decides.{nat_tests}
use Rattle.std.proofs.lemmas.List.{drop-drop, take_rest}
use Rattle.px_bytes.specs.Glob.{is_star, item_has, item_more, behind_set, behind_escape}
use Rattle.px_bytes.specs.Glob.{behind_piece, Matches}
use Rattle.px_bytes.specs.Glob.Matches.{AtEnd, Many, One}
use Rattle.px_bytes.specs.GlobRun.{ComesTo, starred, IsRun, Settles, left_of}
use Rattle.px_bytes.specs.declared.pattern.Run.{Run}
use Rattle.px_bytes.specs.declared.pattern.Run.TheVariants.{Ends, Star, Fails}

-- a `*` and what it stands for
star_front : {p : ℕ} {ps text : List ℕ} → is_star p ≡ true → Matches (p ∷ ps) text → (front : ℕ) × Matches ps (drop front text)
star_front s (Many is front m) = (front, m)
star_front s (One is e m) = absurd (false≢true (sym is ∙ s))

-- another piece and the byte that it stands for
record Takes (p : ℕ) (ps text : List ℕ) : Type 0 where
  byte : ℕ
  more : List ℕ
  rest : List ℕ
  first : text ≡ byte ∷ more
  piece : behind_piece p ps byte ≡ Some rest
  behind : Matches rest more

one_byte : {p : ℕ} {ps text : List ℕ} → is_star p ≡ false → Matches (p ∷ ps) text → Takes p ps text
one_byte n (Many is front m) = absurd (false≢true (sym n ∙ is))
one_byte n (One {byte = byte} {rest = rest} {text = more} is e m) =
    record { byte = byte; more = more; rest = rest; first = refl; piece = e; behind = m }

only_empty : {text : List ℕ} → Matches [] text → text ≡ []
only_empty AtEnd = refl

-- WHERE A PIECE ENDS

set_ends : (t f g : Bool) (ps r s : List ℕ) (x y : Option (List ℕ)) → cond t (cond f (Some ps) None) x ≡ Some r → cond t (cond g (Some ps) None) y ≡ Some s → (x ≡ Some r → y ≡ Some s → r ≡ s) → r ≡ s
set_ends true true true ps r s x y a b more = cc
set_ends true true false ps r s x y a b more = cc
set_ends true false g ps r s x y a b more = cc
set_ends false f g ps r s x y a b more = more a b

same_set : (b c : ℕ) (f g : Bool) (k : ℕ) (ps r s : List ℕ) → behind_set b f k ps ≡ Some r → behind_set c g k ps ≡ Some s → r ≡ s
same_set b c f g k [] r s x y = cc
same_set b c f g (suc k) (a ∷ ps) r s x y = same_set b c f g k ps r s x y
same_set b c f g zero (a ∷ ps) r s x y =
    set_ends (a == 93) f g ps r s _ _ x y (same_set b c (f || item_has a ps b) (g || item_has a ps c) (item_more ps) ps r s)

set_short : (t f : Bool) (ps r : List ℕ) (x : Option (List ℕ)) → cond t (cond f (Some ps) None) x ≡ Some r → (x ≡ Some r → length r ≤ length ps) → length r ≤ length ps
set_short true true ps r x a more = let same : ps ≡ r = cc in omega (arith, ap length same)
set_short true false ps r x a more = cc
set_short false f ps r x a more = more a

set_shorter : (b : ℕ) (f : Bool) (k : ℕ) (ps r : List ℕ) → behind_set b f k ps ≡ Some r → length r ≤ length ps
set_shorter b f k [] r x = cc
set_shorter b f (suc k) (a ∷ ps) r x = let less = set_shorter b f k ps r x in omega arith
set_shorter b f zero (a ∷ ps) r x =
    let less = set_short (a == 93) f ps r _ x (set_shorter b (f || item_has a ps b) (item_more ps) ps r) in omega arith

if_same : (t u : Bool) (ps r s : List ℕ) → cond t (Some ps) None ≡ Some r → cond u (Some ps) None ≡ Some s → r ≡ s
if_same true true ps r s x y = cc
if_same true false ps r s x y = cc
if_same false u ps r s x y = cc

if_short : (t : Bool) (ps r : List ℕ) → cond t (Some ps) None ≡ Some r → length r ≤ length ps
if_short true ps r x = let same : ps ≡ r = cc in omega (arith, ap length same)
if_short false ps r x = cc

same_escape : (b c : ℕ) (ps r s : List ℕ) → behind_escape b ps ≡ Some r → behind_escape c ps ≡ Some s → r ≡ s
same_escape b c [] r s x y = if_same (b == 92) (c == 92) [] r s x y
same_escape b c (p ∷ ps) r s x y = if_same (p == b) (p == c) ps r s x y

escape_shorter : (b : ℕ) (ps r : List ℕ) → behind_escape b ps ≡ Some r → length r ≤ length ps
escape_shorter b [] r x = if_short (b == 92) [] r x
escape_shorter b (p ∷ ps) r x = let less = if_short (p == b) ps r x in omega arith

-- the same choice for two bytes
by_kind : (any set escape : Bool) (ps r s : List ℕ) (x y x' y' x'' y'' : Option (List ℕ))
    → (x ≡ Some r → y ≡ Some s → r ≡ s) → (x' ≡ Some r → y' ≡ Some s → r ≡ s) → (x'' ≡ Some r → y'' ≡ Some s → r ≡ s)
    → cond any (Some ps) (cond set x (cond escape x' x'')) ≡ Some r → cond any (Some ps) (cond set y (cond escape y' y'')) ≡ Some s → r ≡ s
by_kind true set escape ps r s x y x' y' x'' y'' f g h a b = cc
by_kind false true escape ps r s x y x' y' x'' y'' f g h a b = f a b
by_kind false false true ps r s x y x' y' x'' y'' f g h a b = g a b
by_kind false false false ps r s x y x' y' x'' y'' f g h a b = h a b

-- a piece ends at one place, whatever byte it stands for
same_end : (p : ℕ) (ps : List ℕ) (b c : ℕ) (r s : List ℕ) → behind_piece p ps b ≡ Some r → behind_piece p ps c ≡ Some s → r ≡ s
same_end p ps b c r s =
    by_kind (p == 63) (p == 91) (p == 92) ps r s _ _ _ _ _ _ (same_set b c false false 0 ps r s) (same_escape b c ps r s) (if_same (p == b) (p == c) ps r s)

by_kind_short : (any set escape : Bool) (ps r : List ℕ) (x x' x'' : Option (List ℕ))
    → (x ≡ Some r → length r ≤ length ps) → (x' ≡ Some r → length r ≤ length ps) → (x'' ≡ Some r → length r ≤ length ps)
    → cond any (Some ps) (cond set x (cond escape x' x'')) ≡ Some r → length r ≤ length ps
by_kind_short true set escape ps r x x' x'' f g h a = let same : ps ≡ r = cc in omega (arith, ap length same)
by_kind_short false true escape ps r x x' x'' f g h a = f a
by_kind_short false false true ps r x x' x'' f g h a = g a
by_kind_short false false false ps r x x' x'' f g h a = h a

pub piece_shorter : (p : ℕ) (ps : List ℕ) (b : ℕ) (r : List ℕ) → behind_piece p ps b ≡ Some r → length r ≤ length ps
piece_shorter p ps b r =
    by_kind_short (p == 63) (p == 91) (p == 92) ps r _ _ _ (set_shorter b false 0 ps r) (escape_shorter b ps r) (if_short (p == b) ps r)

-- THE PIECES UP TO A STAR

pub begins : (pattern text : List ℕ) → ComesTo pattern text pattern text
begins pattern text = record { back = λ m. m; on = λ k m. m; within = omega arith }

tail_of_drop : (k : ℕ) (xs : List ℕ) (y : ℕ) (ys : List ℕ) → drop k xs ≡ y ∷ ys → ys ≡ drop (suc k) xs
tail_of_drop k xs y ys e = ap (drop 1) (sym e) ∙ drop-drop 1 k xs ∙ ap (λ n. drop n xs) (add-one k)

one_taken : (p : ℕ) (ps : List ℕ) (b : ℕ) (more left : List ℕ) → is_star p ≡ false → behind_piece p ps b ≡ Some left
    → (k : ℕ) → Matches (p ∷ ps) (drop k (b ∷ more)) → Matches left (drop k more)
one_taken p ps b more left n e k m =
    let w = one_byte n m in
    let same : w.rest ≡ left = same_end p ps w.byte b w.rest left w.piece e in
    let tail : w.more ≡ drop k more = tail_of_drop k (b ∷ more) w.byte w.more w.first in
    subst (λ (r : List ℕ). Matches r (drop k more)) same (subst (λ (t : List ℕ). Matches w.rest t) tail w.behind)

pub takes_one : {pattern text : List ℕ} {p : ℕ} {ps : List ℕ} {b : ℕ} {more left : List ℕ} → is_star p ≡ false → behind_piece p ps b ≡ Some left
    → ComesTo pattern text (p ∷ ps) (b ∷ more) → ComesTo pattern text left more
takes_one {p = p} {ps = ps} {b = b} {more = more} {left = left} n e c = record {
  back = λ m. c.back (One n e m);
  on = λ k m. one_taken p ps b more left n e k (c.on k m);
  within = omega (arith, piece_shorter p ps b left e, c.within);
}

empty_has_none : (b : ℕ) (bs : List ℕ) → ◌≡◌ {A = List ℕ} [] (b ∷ bs) → ⊥
empty_has_none b bs e = cc

-- where the next piece doesn't fit, the pattern doesn't match
pub fails_at_end : {pattern text : List ℕ} {p : ℕ} {ps : List ℕ} → is_star p ≡ false → ComesTo pattern text (p ∷ ps) [] → ¬ Matches pattern text
fails_at_end n c m = let w = one_byte n (c.on 0 m) in empty_has_none w.byte w.more w.first

none_is_some : (r s : Option (List ℕ)) (x : List ℕ) → r ≡ None → r ≡ Some x → ⊥
none_is_some r s x a b = cc

pub fails_at_byte : {pattern text : List ℕ} {p : ℕ} {ps : List ℕ} {b : ℕ} {more : List ℕ} → is_star p ≡ false → behind_piece p ps b ≡ None
    → ComesTo pattern text (p ∷ ps) (b ∷ more) → ¬ Matches pattern text
fails_at_byte {p = p} {ps = ps} {b = b} {more = more} n none c m =
    let w = one_byte n (c.on 0 m) in
    let first : b ≡ w.byte = cc in
    none_is_some _ None w.rest none (ap (behind_piece p ps) first ∙ w.piece)

pub comes_to_end : {pattern text rest : List ℕ} (r : Run) → ComesTo pattern text [] rest → IsRun [] rest r → IsRun pattern text r
comes_to_end Ends c m = c.back m
comes_to_end (Star behind left) c m = record {
  back = λ x. c.back (m.back x);
  on = λ k x. m.on k (c.on k x);
  within = omega (arith, m.within, c.within);
}
comes_to_end Fails c m = λ x. m (c.on 0 x)

-- BEHIND A STAR

star : (front : ℕ) {ps text : List ℕ} → Matches ps (drop front text) → Matches (starred ps) text
star front m = Many refl front m

further : (front : ℕ) {behind more : List ℕ} {x : ℕ} → ¬ Matches behind (x ∷ more) → Matches behind (drop front (x ∷ more)) → Matches (starred behind) more
further zero none m = absurd (none m)
further (suc front) none m = star front m

-- a `*` takes one byte more where the pieces behind it don't fit
pub one_further : {behind more : List ℕ} {x : ℕ} → ¬ Matches behind (x ∷ more) → Matches (starred behind) more ↔ Matches (starred behind) (x ∷ more)
one_further none = (λ m. let w = star_front refl m in star (suc w.0) w.1, λ m. let w = star_front refl m in further w.0 none w.1)

-- the pieces behind a `*` came to the next `*`
one_star : {behind text next rest : List ℕ} → ComesTo behind text (starred next) rest → Matches (starred behind) text → Matches (starred next) rest
one_star {next = next} {rest = rest} c m =
    let w = star_front refl m in
    let v = star_front refl (c.on w.0 w.1) in
    star (w.0 + v.0) (subst (λ (t : List ℕ). Matches next t) (drop-drop v.0 w.0 rest) v.1)

nothing_there : (front : ℕ) {behind : List ℕ} → ¬ Matches behind [] → ¬ Matches behind (drop front [])
nothing_there zero none m = none m
nothing_there (suc front) none m = none m

pub settles_here : (behind rest : List ℕ) (r : Run) → (r ≡ Fails → rest ≡ []) → IsRun behind rest r → Settles (starred behind) rest r
settles_here behind rest Ends end m = star 0 m
settles_here behind rest (Star next left) end c = (λ m. star 0 (c.back m), one_star c)
settles_here behind rest Fails end none =
    subst (λ (t : List ℕ). ¬ Matches (starred behind) t) (sym (end refl))
    (λ m. let w = star_front refl m in nothing_there w.0 (subst (λ (t : List ℕ). ¬ Matches behind t) (end refl) none) w.1)

-- what settles one match settles another that is as good
pub settles_too : (pattern text other : List ℕ) (r : Run) → Matches pattern text ↔ Matches pattern other → Settles pattern text r → Settles pattern other r
settles_too pattern text other Ends same m = same.0 m
settles_too pattern text other (Star behind rest) same c = (λ m. same.0 (c.0 m), λ m. c.1 (same.1 m))
settles_too pattern text other Fails same none = λ m. none (same.1 m)

pub left_is_shorter : (behind rest : List ℕ) (r : Run) → IsRun behind rest r → left_of r ≤ length behind
left_is_shorter behind rest Ends m = omega arith
left_is_shorter behind rest (Star next left) c = c.within
left_is_shorter behind rest Fails none = omega arith

-- a run from the front of the text
pub settles_whole : (pattern text : List ℕ) (r : Run) → IsRun pattern text r → Settles pattern text r
settles_whole pattern text Ends m = m
settles_whole pattern text (Star behind rest) c = (c.back, c.on 0)
settles_whole pattern text Fails none = none

-- OVER SLICES

-- behind the first byte of a slice that isn't empty
abbrev pub behind_first : List ℕ → List ℕ
behind_first xs = take (length xs - 1) (drop 1 xs)

pub fails_there : (pattern text pieces rest : List ℕ) → 1 ≤ length pieces → get_or pieces 0 0 ≢ 42 → length rest < 1 → ComesTo pattern text pieces rest → ¬ Matches pattern text
fails_there pattern text [] rest some n none c = absurd (omega arith)
fails_there pattern text (p ∷ ps) [] some n none c = fails_at_end (ne_eqb p 42 n) c
fails_there pattern text (p ∷ ps) (b ∷ bs) some n none c = absurd (omega arith)

pub misfits : (pattern text pieces rest : List ℕ) → 1 ≤ length pieces → get_or pieces 0 0 ≢ 42 → 1 ≤ length rest
    → behind_piece (get_or pieces 0 0) (behind_first pieces) (get_or rest 0 0) ≡ None → ComesTo pattern text pieces rest → ¬ Matches pattern text
misfits pattern text [] rest some n more e c = absurd (omega arith)
misfits pattern text (p ∷ ps) [] some n more e c = absurd (omega arith)
misfits pattern text (p ∷ ps) (b ∷ bs) some n more e c = fails_at_byte (ne_eqb p 42 n) (ap (λ t. behind_piece p t b) (sym (take_rest (p ∷ ps) 1)) ∙ e) c

pub goes_on : (pattern text pieces rest left : List ℕ) → 1 ≤ length pieces → get_or pieces 0 0 ≢ 42 → 1 ≤ length rest
    → behind_piece (get_or pieces 0 0) (behind_first pieces) (get_or rest 0 0) ≡ Some left → ComesTo pattern text pieces rest → ComesTo pattern text left (behind_first rest)
goes_on pattern text [] rest left some n more e c = absurd (omega arith)
goes_on pattern text (p ∷ ps) [] left some n more e c = absurd (omega arith)
goes_on pattern text (p ∷ ps) (b ∷ bs) left some n more e c =
    rw (take_rest (b ∷ bs) 1) (takes_one (ne_eqb p 42 n) (ap (λ t. behind_piece p t b) (sym (take_rest (p ∷ ps) 1)) ∙ e) c)

pub gets_shorter : (pieces left : List ℕ) (b : ℕ) → 1 ≤ length pieces → behind_piece (get_or pieces 0 0) (behind_first pieces) b ≡ Some left → length left < length pieces
gets_shorter [] left b some e = absurd (omega arith)
gets_shorter (p ∷ ps) left b some e = omega (arith, piece_shorter p ps b left (ap (λ t. behind_piece p t b) (sym (take_rest (p ∷ ps) 1)) ∙ e))

pub one_byte_further : (behind text rest : List ℕ) → 1 ≤ length rest → ¬ Matches behind rest → Matches (starred behind) rest ↔ Matches (starred behind) text
    → Matches (starred behind) (behind_first rest) ↔ Matches (starred behind) text
one_byte_further behind text [] some none same = absurd (omega arith)
one_byte_further behind text (x ∷ more) some none same =
    let next = one_further none in
    rw (take_rest (x ∷ more) 1) (λ m. same.0 (next.0 m), λ m. next.1 (same.1 m))

pub comes_to_no_piece : (pattern text pieces rest : List ℕ) (r : Run) → length pieces < 1 → ComesTo pattern text pieces rest → IsRun [] rest r → IsRun pattern text r
comes_to_no_piece pattern text [] rest r none c m = comes_to_end r c m
comes_to_no_piece pattern text (p ∷ ps) rest r none c m = absurd (omega arith)

pub matches_nothing : (rest : List ℕ) → (length rest == 0) ≡ true → Matches [] rest
matches_nothing [] e = AtEnd
matches_nothing (b ∷ bs) e = let never : ⊥ = grind (arith, nat_tests) in absurd never
