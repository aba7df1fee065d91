-- The numbers of the live connections, where one is accepted.
use Rattle.std.proofs.Common.{◌≡◌, ℕ, ◌<◌, ◌≤◌, List, [], ◌∷◌, ◌++◌, Bool, true, false, nat_eq, sym, ◌∙◌, refl, arith}
use Rattle.std.proofs.lemmas.List.{map-append}
pub use Rattle.number_table.proofs.Ring.{absent_all, distinct_none, distinct_push, distinct_without}
use Rattle.number_table.proofs.Numbers.{eq_same}
use Rattle.number_table.proofs.Ring.{in_pushed_other}
use Rattle.proxy_core.specs.declared.live.Live.{Live}
use Rattle.proxy_core.specs.Ready.{numbers, is_in}

pub numbers_push : (ls : List Live) (l : Live) → numbers (ls ++ l ∷ []) ≡ numbers ls ++ l.number ∷ []
numbers_push ls l = map-append (λ x. x.number) ls (l ∷ [])

pub accept_known : (ls : List Live) (l : Live) (last : ℕ) → ((q : ℕ) → is_in (numbers ls) q ≡ true → q ≤ last) → last < l.number → (q : ℕ) → is_in (numbers (ls ++ l ∷ [])) q ≡ true → q ≤ l.number
accept_known ls l last known above q h = by_cases (nat_eq q l.number) refl
  where
    by_cases : (b : Bool) → nat_eq q l.number ≡ b → q ≤ l.number
    by_cases true e = let s = eq_same q l.number e in omega arith
    by_cases false e = omega (arith, known q (sym (in_pushed_other l.number q (numbers ls) e) ∙ (rw (numbers_push ls l) at h)))
