-- What is left of a script.
use Rattle.std.proofs.Common.{◌≡◌, ℕ, ◌+◌, ◌-◌, ◌==◌, ◌<◌, ◌≤◌, ◌≢◌, List, [], ◌∷◌, ◌++◌, length, take, drop, min, suc, zero, Option, Some, None, Bool, true, false, refl, ap, sym, ◌∙◌, arith, subst, drop-cons, lt-ltb, drop-drop, get_or, add_comm, length-drop}
use Rattle.std.specs.Prelude.{nat_lt, if◌then◌else◌}
use Rattle.std.specs.List.{slice_get}
use Rattle.std.proofs.lemmas.Option.{slice_get_within, get_or_from_slice_get, slice_get-get_or}
use Rattle.std.proofs.lemmas.Grind.{common_steps}
use Rattle.px_outside.specs.MemLink.{cut_front, over, is_over, IsWithinFront, reading, bytes_left, ReadLeft, LinkInMemory, ReadsLink, after_read}
use Rattle.px_outside.specs.declared.mem_script.MemRead.{MemRead}
use Rattle.px_outside.specs.declared.mem_script.MemRead.TheVariants as item
use Rattle.px_outside.specs.declared.answers.ReadAnswer.TheVariants as read

pub front_is : (items : List MemRead) (at : ℕ) (x : MemRead) → slice_get items at ≡ Some x → drop at items ≡ x ∷ drop (suc at) items
front_is items at x is =
    drop-cons items at x (slice_get_within items at x is) ∙ ap (λ y. y ∷ drop (suc at) items) (get_or_from_slice_get items at x x is)

abbrev pub bytes_read : List ℕ → List MemRead → ℕ → ReadLeft
bytes_read left rest len = record { answer = read.Got (min len (length left)); bytes = take len left; reads = bytes_left left len rest }

reading_bytes : (left : List ℕ) (rest : List MemRead) (len : ℕ) → 0 < length left
    → reading (item.Bytes left ∷ rest) len ≡ bytes_read left rest len
reading_bytes [] rest len some = absurd (omega (arith, some))
reading_bytes (x ∷ b) rest len some = refl

-- a read of bytes, of which some were read before
pub reads_bytes : (items : List MemRead) (at done len : ℕ) (b : List ℕ) → slice_get items at ≡ Some (item.Bytes b) → 0 < length (drop done b)
    → reading (cut_front done (drop at items)) len ≡ bytes_read (drop done b) (drop (suc at) items) len
reads_bytes items at done len b is some =
    ap (λ l. reading (cut_front done l) len) (front_is items at (item.Bytes b) is) ∙ reading_bytes (drop done b) (drop (suc at) items) len some

-- what a read of bytes leaves of the link
pub reads_link : (l l' : LinkInMemory) (items left_items : List MemRead) (at done len n : ℕ) (b into : List ℕ)
    → l.reads ≡ cut_front done (drop at items) → slice_get items at ≡ Some (item.Bytes b) → 0 < length (drop done b)
    → n ≡ min len (length (drop done b)) → into ≡ take len (drop done b)
    → left_items ≡ bytes_left (drop done b) len (drop (suc at) items)
    → l' ≡ record l { reads = left_items } → ReadsLink l len (read.Got n) into l'
reads_link l l' items left_items at done len n b into is_reads is some count bytes left after =
    let e : reading l.reads len ≡ bytes_read (drop done b) (drop (suc at) items) len =
    ap (λ r. reading r len) is_reads ∙ reads_bytes items at done len b is some in
    record {
      answer = ap read.Got count ∙ sym (ap (λ (r : ReadLeft). r.answer) e);
      bytes = bytes ∙ sym (ap (λ (r : ReadLeft). r.bytes) e);
      link = after ∙ ap (λ r. record l { reads = r }) left ∙ sym (ap (after_read l) e);
    }

pub cut_none : (items : List MemRead) → cut_front 0 items ≡ items
cut_none [] = refl
cut_none (item.Bytes b ∷ rest) = refl
cut_none (item.NotYet ∷ rest) = refl
cut_none (item.After n ∷ rest) = refl
cut_none (item.End ∷ rest) = refl
cut_none (item.Reset ∷ rest) = refl

drop_twice : (done len : ℕ) (b : List ℕ) → drop (done + len) b ≡ drop len (drop done b)
drop_twice done len b = sym (drop-drop len done b)

-- the room was too small
pub left_part : (items : List MemRead) (at done len n : ℕ) (b : List ℕ) → slice_get items at ≡ Some (item.Bytes b)
    → len < length (drop done b) → n ≡ min len (length (drop done b))
    → cut_front (done + n) (drop at items) ≡ bytes_left (drop done b) len (drop (suc at) items)
left_part items at done len n b is lt count =
    let same : n ≡ len = omega (arith, lt, count) in
    let test : nat_lt len (length (drop done b)) ≡ true = lt-ltb _ _ lt in
    ap (cut_front (done + n)) (front_is items at (item.Bytes b) is)
    ∙ ap (λ d. item.Bytes d ∷ drop (suc at) items) (ap (λ k. drop (done + k) b) same ∙ drop_twice done len b)
    ∙ sym (ap (λ t. if t then item.Bytes (drop len (drop done b)) ∷ drop (suc at) items else drop (suc at) items) test)

-- the room was large enough
pub left_none : (items : List MemRead) (at next done len : ℕ) (b : List ℕ) → next ≡ suc at
    → length (drop done b) ≤ len → cut_front 0 (drop next items) ≡ bytes_left (drop done b) len (drop (suc at) items)
left_none items at next done len b one le =
    let test : nat_lt len (length (drop done b)) ≡ false = grind (arith, common_steps) in
    cut_none (drop next items) ∙ ap (λ k. drop k items) one
    ∙ sym (ap (λ t. if t then item.Bytes (drop len (drop done b)) ∷ drop (suc at) items else drop (suc at) items) test)

pub item_at : (items items' : List MemRead) (at : ℕ) (x y : MemRead) → items' ≡ items
    → at < length items' → ((d : MemRead) → y ≡ get_or items' at d) → y ≡ x → slice_get items at ≡ Some x
item_at items items' at x y same lt is e =
    subst (λ (l : List MemRead). slice_get l at ≡ Some x) same (slice_get-get_or items' at x lt ∙ ap Some (sym (is x) ∙ e))

drop_items : (at n : ℕ) (items : List MemRead) → drop (at + n) items ≡ drop n (drop at items)
drop_items at n items = sym (drop-drop n at items)

drop_cut : (n done : ℕ) (items : List MemRead) → 0 < n → drop n (cut_front done items) ≡ drop n items
drop_cut zero done items some = absurd (omega (arith, some))
drop_cut (suc n) done [] some = refl
drop_cut (suc n) done (item.Bytes b ∷ rest) some = refl
drop_cut (suc n) done (item.NotYet ∷ rest) some = refl
drop_cut (suc n) done (item.After k ∷ rest) some = refl
drop_cut (suc n) done (item.End ∷ rest) some = refl
drop_cut (suc n) done (item.Reset ∷ rest) some = refl

-- so many items more are passed
pub passed : (items : List MemRead) (at done n : ℕ) → 0 < n
    → cut_front 0 (drop (at + n) items) ≡ drop n (cut_front done (drop at items))
passed items at done n some =
    cut_none (drop (at + n) items) ∙ drop_items at n items ∙ sym (drop_cut n done (drop at items) some)

pub length_cut : (done : ℕ) (items : List MemRead) → length (cut_front done items) ≡ length items
length_cut done [] = refl
length_cut done (item.Bytes b ∷ rest) = refl
length_cut done (item.NotYet ∷ rest) = refl
length_cut done (item.After k ∷ rest) = refl
length_cut done (item.End ∷ rest) = refl
length_cut done (item.Reset ∷ rest) = refl

pub over_cut : (ended : ℕ → Bool) (done : ℕ) (items : List MemRead) → over ended items ≡ over ended (cut_front done items)
over_cut ended done [] = refl
over_cut ended done (item.Bytes b ∷ rest) = refl
over_cut ended done (item.NotYet ∷ rest) = refl
over_cut ended done (item.After k ∷ rest) = refl
over_cut ended done (item.End ∷ rest) = refl
over_cut ended done (item.Reset ∷ rest) = refl

pub none_read : (items : List MemRead) → IsWithinFront 0 items
none_read [] = refl
none_read (item.Bytes b ∷ rest) = omega arith
none_read (item.NotYet ∷ rest) = refl
none_read (item.After k ∷ rest) = refl
none_read (item.End ∷ rest) = refl
none_read (item.Reset ∷ rest) = refl

-- so many items more are there
pub within_rest : (items reads : List MemRead) (at done n : ℕ) → at ≤ length items
    → reads ≡ cut_front done (drop at items) → n ≤ length reads → at + n ≤ length items
within_rest items reads at done n within is le =
    omega (arith, ap length is ∙ length_cut done (drop at items), length-drop at items)

over_one : (b : Bool) (n len : ℕ) → n ≤ len → (if b then n + 1 else 0) ≤ len + 1
over_one true n len le = omega arith
over_one false n len le = omega arith

pub over_within : (ended : ℕ → Bool) (reads : List MemRead) → over ended reads ≤ length reads
over_within ended [] = omega arith
over_within ended (x ∷ rest) = omega (arith, over_one (is_over ended x) (over ended rest) (length rest) (over_within ended rest))
