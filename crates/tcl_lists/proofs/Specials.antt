-- The bytes that need braces or a backslash.
use Rattle.std.proofs.Common.{◌≡◌, ℕ, ◌≤◌, Bool, true, false, not, ◌&&◌, ◌||◌, ◌==◌, nat_le, List}
use Rattle.std.proofs.Common.{◌∷◌, refl, sym, subst, arith}
use Rattle.std.proofs.lemmas.Bool.{false≢true}
use Rattle.std.proofs.lemmas.Bool.Decides.{nat_tests, Decides-eqb}
use Rattle.px_bytes.specs.White.{is_space}
use Rattle.tcl_lists.specs.Escape.{escape}
use Rattle.tcl_lists.specs.Write.{is_special, escape_letter}

pub or_left : (x y : Bool) → (x || y) ≡ false → x ≡ false
or_left false y h = refl
or_left true y h = h

pub or_right : (x y : Bool) → (x || y) ≡ false → y ≡ false
or_right false y h = h
or_right true y h = absurd (false≢true (sym h))

pub and_left : (x y : Bool) → (x && y) ≡ true → x ≡ true
and_left true y h = refl
and_left false y h = absurd (false≢true h)

pub and_right : (x y : Bool) → (x && y) ≡ true → y ≡ true
and_right true y h = h
and_right false y h = absurd (false≢true h)

pub not_true : (x : Bool) → not x ≡ true → x ≡ false
not_true false h = refl
not_true true h = absurd (false≢true h)

either : {C : Type 0} (x y : Bool) → (x || y) ≡ true → (x ≡ true → C) → (y ≡ true → C) → C
either true y h f g = f refl
either false y h f g = g h

at_value : (P : ℕ → Type 0) (b v : ℕ) → P v → (b == v) ≡ true → P b
at_value P b v p e = subst P (sym ((Decides-eqb b v).0 e)) p

five : (P : ℕ → Type 0) (b : ℕ) (p q r s t : Bool) → (b == 9) ≡ p → (b == 10) ≡ q → (b == 11) ≡ r → (b == 12) ≡ s → (b == 13) ≡ t
    → 9 ≤ b → b ≤ 13 → P 9 → P 10 → P 11 → P 12 → P 13 → P b
five P b true q r s t e f g h i low high a2 b2 c2 d2 e2 = at_value P b 9 a2 e
five P b false true r s t e f g h i low high a2 b2 c2 d2 e2 = at_value P b 10 b2 f
five P b false false true s t e f g h i low high a2 b2 c2 d2 e2 = at_value P b 11 c2 g
five P b false false false true t e f g h i low high a2 b2 c2 d2 e2 = at_value P b 12 d2 h
five P b false false false false true e f g h i low high a2 b2 c2 d2 e2 = at_value P b 13 e2 i
five P b false false false false false e f g h i low high a2 b2 c2 d2 e2 = let never : ⊥ = grind (arith, nat_tests) in absurd never

-- what holds of each of the special bytes
record OfEach (P : ℕ → Type 0) : Type 0 where
  blank : P 32
  tab : P 9
  newline : P 10
  vertical : P 11
  feed : P 12
  carriage : P 13
  open_brace : P 123
  close_brace : P 125
  open_bracket : P 91
  close_bracket : P 93
  dollar : P 36
  semicolon : P 59
  quote : P 34
  backslash : P 92

low_is : (b : ℕ) → nat_le 9 b ≡ true → 9 ≤ b
low_is b e = grind (arith, nat_tests)

high_is : (b : ℕ) → nat_le b 13 ≡ true → b ≤ 13
high_is b e = grind (arith, nat_tests)

space_is : (P : ℕ → Type 0) (b : ℕ) → OfEach P → is_space b ≡ true → P b
space_is P b each h =
    either (b == 32) _ h (at_value P b 32 each.blank)
    (λ r. five P b _ _ _ _ _ refl refl refl refl refl (low_is b (and_left (nat_le 9 b) (nat_le b 13) r)) (high_is b (and_right (nat_le 9 b) (nat_le b 13) r)) each.tab each.newline each.vertical each.feed each.carriage)

special_is : (P : ℕ → Type 0) (b : ℕ) → OfEach P → is_special b ≡ true → P b
special_is P b each h =
    either _ _ h
    (λ g. either (is_space b) _ g (space_is P b each)
    (λ f. either _ _ f (λ e. either _ _ e (at_value P b 123 each.open_brace) (at_value P b 125 each.close_brace)) (λ e. either _ _ e (at_value P b 91 each.open_bracket) (at_value P b 93 each.close_bracket))))
    (λ g. either _ _ g (λ e. either _ _ e (at_value P b 36 each.dollar) (at_value P b 59 each.semicolon)) (λ e. either _ _ e (at_value P b 34 each.quote) (at_value P b 92 each.backslash)))

-- a special byte behind a backslash, or its letter, stands for itself
pub escape_back : (zs : List ℕ) (b : ℕ) → is_special b ≡ true → escape (escape_letter b ∷ zs) ≡ record { byte = b; taken = 1 }
escape_back zs b h = special_is (λ (v : ℕ). escape (escape_letter v ∷ zs) ≡ record { byte = v; taken = 1 }) b (record {
  blank = refl;
  tab = refl;
  newline = refl;
  vertical = refl;
  feed = refl;
  carriage = refl;
  open_brace = refl;
  close_brace = refl;
  open_bracket = refl;
  close_bracket = refl;
  dollar = refl;
  semicolon = refl;
  quote = refl;
  backslash = refl;
}) h

-- what a byte that isn't special isn't
pub not_space : (b : ℕ) → is_special b ≡ false → is_space b ≡ false
not_space b h = or_left (is_space b) _ (or_left _ _ h)

pub not_backslash : (b : ℕ) → is_special b ≡ false → (b == 92) ≡ false
not_backslash b h = or_right (b == 34) (b == 92) (or_right _ _ (or_right _ _ h))

pub not_quote : (b : ℕ) → is_special b ≡ false → (b == 34) ≡ false
not_quote b h = or_left (b == 34) (b == 92) (or_right _ _ (or_right _ _ h))

pub not_brace : (b : ℕ) → is_special b ≡ false → (b == 123) ≡ false
not_brace b h = or_left (b == 123) (b == 125) (or_left _ _ (or_right (is_space b) _ (or_left _ _ h)))
