-- The order of deadlines.
use Rattle.std.proofs.Common.{◌≡◌, ◌⊎◌, inl, inr, refl, ℕ, ◌≤◌, Bool, true, false, Option, Some, None}
use Rattle.std.proofs.Common.{arith, if◌then◌else◌}
use Rattle.std.proofs.lemmas.Bool.Decides.{nat_tests}
use Rattle.index_lists.specs.Least.{is_earlier, earlier}

-- a doesn't come behind b
pub record Within (a b : Option ℕ) : Type 0 where
  pub is : is_earlier b a ≡ false

pub same_within : (a b : Option ℕ) → a ≡ b → Within a b
same_within a b e = rw e (itself b)
  where
    itself : (x : Option ℕ) → Within x x
    itself None = record { is = refl }
    itself (Some n) = record { is = grind (arith, nat_tests) }

pub within_trans : (a b c : Option ℕ) → Within a b → Within b c → Within a c
within_trans a b None x y = record { is = refl }
within_trans None None (Some n) x y = y
within_trans None (Some m) (Some n) x y = absurd (let z = x.is in cc)
within_trans (Some l) None (Some n) x y = absurd (let z = y.is in cc)
within_trans (Some l) (Some m) (Some n) x y = record { is = let f = x.is in let g = y.is in grind (arith, nat_tests) }

pub earlier_left : (a b : Option ℕ) → Within (earlier a b) a
earlier_left a b = by (is_earlier a b) refl
  where
    by : (t : Bool) → is_earlier a b ≡ t → Within (if t then a else b) a
    by true e = same_within a a refl
    by false e = swap a b e
      where
        swap : (x y : Option ℕ) → is_earlier x y ≡ false → Within y x
        swap x y f = record { is = f }

pub earlier_right : (a b : Option ℕ) → Within (earlier a b) b
earlier_right a b = by (is_earlier a b) refl
  where
    by : (t : Bool) → is_earlier a b ≡ t → Within (if t then a else b) b
    by false e = same_within b b refl
    by true e = forth a b e
      where
        forth : (x y : Option ℕ) → is_earlier x y ≡ true → Within x y
        forth None y f = absurd (cc)
        forth (Some m) None f = record { is = refl }
        forth (Some m) (Some n) f = record { is = grind (arith, nat_tests) }

-- the earlier of two is one of them
pub earlier_is : (a b : Option ℕ) → earlier a b ≡ a ⊎ earlier a b ≡ b
earlier_is a b = by (is_earlier a b)
  where
    by : (t : Bool) → (if t then a else b) ≡ a ⊎ (if t then a else b) ≡ b
    by true = inl refl
    by false = inr refl

-- what a deadline that comes first tells of another
pub within_due : (m n : ℕ) → Within (Some m) (Some n) → m ≤ n
within_due m n w = let e = w.is in grind (arith, nat_tests)

pub within_none : (b : Option ℕ) → Within None b → b ≡ None
within_none None w = refl
within_none (Some n) w = absurd (let e = w.is in cc)
