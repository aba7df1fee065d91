-- The first procedure of a name, and its view.
use Rattle.std.proofs.Common.{◌≡◌, ℕ, ◌+◌, Bool, true, false, List, [], ◌∷◌, Option, Some, None, cond, not, refl, sym, ap, ap₂, ◌∙◌, Bor}
use Rattle.std.proofs.lemmas.List.{length-map}
use Rattle.std.specs.List.{find, position, position_or_len}
use Rattle.std.specs.Prelude.{nat_lt, option_map}
use Rattle.std.specs.Str.{bytes_eq}
use Rattle.tcl_trees.specs.Procedures.{Procedure, procedure_named, place_named, procedure_view, procs_view}
use Rattle.tcl_trees.specs.declared.procs.Proc.{Proc}

find_map : (p : Procedure → Bool) (xs : List Proc)
    → option_map procedure_view (find (λ x. p (procedure_view x)) xs) ≡ find p (procs_view xs)
find_map p [] = refl
find_map p (x ∷ xs) = go (p (procedure_view x)) (find_map p xs)
  where
    go : (b : Bool) → option_map procedure_view (find (λ y. p (procedure_view y)) xs) ≡ find p (procs_view xs)
        → option_map procedure_view (cond b (Some x) (find (λ y. p (procedure_view y)) xs))
        ≡ cond b (Some (procedure_view x)) (find p (procs_view xs))
    go true e = refl
    go false e = e

within : (r : Option (Bor Proc))
    → option_map (λ p. procedure_view p.now) r ≡ option_map procedure_view (option_map (λ p. p.now) r)
within None = refl
within (Some p) = refl

pub first_viewed : (name : List ℕ) (ps : List Proc) (r : Option (Bor Proc))
    → option_map (λ p. p.now) r ≡ find (λ p. bytes_eq p.name name) ps
    → option_map (λ p. procedure_view p.now) r ≡ procedure_named name (procs_view ps)
first_viewed name ps r is =
    within r ∙ ap (option_map procedure_view) is ∙ find_map (λ p. bytes_eq p.name name) ps

-- the place of the first one
placed : (p : Procedure → Bool) (xs : List Proc)
    → position_or_len (λ x. p (procedure_view x)) xs ≡ position_or_len p (procs_view xs)
placed p [] = refl
placed p (x ∷ xs) = ap (λ n. cond (not (p (procedure_view x))) (1 + n) 0) (placed p xs)

pub place_viewed : (name : List ℕ) (ps : List Proc)
    → position (λ p. bytes_eq p.name name) ps ≡ place_named name (procs_view ps)
place_viewed name ps =
    ap₂ (λ n m. cond (nat_lt n m) (Some n) None) (placed (λ p. bytes_eq p.name name) ps) (sym (length-map ps procedure_view))
