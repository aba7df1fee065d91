-- The first pattern that is hit, and the first body.
use Rattle.std.proofs.Common.{◌≡◌, refl, sym, ap, ◌∙◌, ℕ, suc, ◌+◌, ◌-◌, ◌≤◌, List, [], ◌∷◌, length, drop, take, codes}
use Rattle.std.proofs.Common.{Bool, false, Option, Some, None, arith, option_map, get_or}
use Rattle.std.proofs.lemmas.List.{take_all}
use Rattle.std.specs.Str.{bytes_eq}
use Rattle.rule_model.specs.Control.{first_hit, hits, is_glob}

shifted : (at : ℕ) (x : Option ℕ) → option_map (λ k. (at + 1) + k) x ≡ option_map (λ k. at + k) (option_map suc x)
shifted at None = refl
shifted at (Some k) = let e : (at + 1) + k ≡ at + suc k = omega arith in ap Some e

pub hit_behind : (at : ℕ) (glob : Bool) (text p : List ℕ) (more : List (List ℕ)) (x : Option ℕ) → hits glob text p more ≡ false
    → option_map (λ k. at + k) (first_hit glob text (p ∷ more)) ≡ x → option_map (λ k. (at + 1) + k) (first_hit glob text more) ≡ x
hit_behind at glob text p more x is h = shifted at (first_hit glob text more) ∙ (rw is at h)

-- an option that there isn't
pub glob_none : (glob : Bool) (option : List ℕ) (options : List (List ℕ)) → bytes_eq option (codes "-exact") ≡ false → bytes_eq option (codes "-glob") ≡ false
    → bytes_eq option (codes "--") ≡ false → is_glob glob (option ∷ options) ≡ None
glob_none glob option options a b c = rw (a, b, c) refl

-- the front of a slice and the rest behind it
pub one_more : {A : Type 0} (xs : List A) (x : A) → 1 ≤ length xs → x ≡ get_or xs 0 x → xs ≡ x ∷ take (length xs - 1) (drop 1 xs)
one_more [] x some is = absurd (omega arith)
one_more (y ∷ ys) x some is =
    let e : length ys ≡ suc (length ys) - 1 = omega arith in
    ap (λ z. z ∷ ys) (sym is) ∙ ap (λ l. x ∷ l) (sym (take_all (suc (length ys) - 1) ys (omega arith)))
