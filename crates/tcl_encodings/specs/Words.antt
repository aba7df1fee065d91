-- Commands that take one text.
use Rattle.std.specs.Prelude.{ℕ, List, [], ◌∷◌, Result, Err}
use Rattle.px_bytes.specs.FaultText.{wrong_arity}
use Rattle.px_bytes.specs.declared.fault.TclFault.{TclFault}

-- what the command of this name makes of its one word
abbrev pub of_one_word : List ℕ → (List ℕ → Result (List ℕ) TclFault) → List (List ℕ)
    → Result (List ℕ) TclFault
of_one_word name f [] = Err (wrong_arity name)
of_one_word name f (text ∷ []) = f text
of_one_word name f (text ∷ (other ∷ more)) = Err (wrong_arity name)
