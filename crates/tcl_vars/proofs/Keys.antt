-- The names of a table whose entries' keys are read as names.
use Rattle.std.proofs.Common.{◌≡◌, ℕ, List, [], ◌∷◌, refl, ap, map}
use Rattle.std.specs.Map.{keys_of}
use Rattle.tcl_vars.proofs.Named.{named}

pub keys_of-named : {K X : Type 0} (name : K → List ℕ) (es : List (K × X)) → map name (keys_of es) ≡ keys_of (named name es)
keys_of-named name [] = refl
keys_of-named name (e ∷ es) = ap (λ ks. name e.0 ∷ ks) (keys_of-named name es)
