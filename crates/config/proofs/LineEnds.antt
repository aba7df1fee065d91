-- One byte is passed, and the others are still to come.
use Rattle.std.proofs.Common.{◌≡◌, ℕ, ◌-◌, ◌<◌, ◌≤◌, true, false, List, [], ◌∷◌, ◌++◌, length, get_or, take, drop}
use Rattle.std.proofs.Common.{ap, sym, ◌∙◌, arith, append_assoc, append-nil}
use Rattle.std.specs.Prelude.{if◌then◌else◌}
use Rattle.std.proofs.lemmas.List.{take_rest}
use Rattle.config.specs.LineEnds.{is_return, without_returns}

-- what stands behind the first byte, as a pattern has it
abbrev behind : List ℕ → List ℕ
behind rest = take (length rest - 1) (drop 1 rest)

pub kept_on : (kept rest all : List ℕ) → 1 ≤ length rest → is_return (get_or rest 0 0) (behind rest) ≡ false
    → kept ++ without_returns rest ≡ all → (kept ++ get_or rest 0 0 ∷ []) ++ without_returns (behind rest) ≡ all
kept_on kept [] all some stays same = absurd (omega arith)
kept_on kept (b ∷ bs) all some stays same =
    let e : behind (b ∷ bs) ≡ bs = take_rest (b ∷ bs) 1 in
    let stay : is_return b bs ≡ false = ap (λ t. is_return b t) (sym e) ∙ stays in
    let one : without_returns (b ∷ bs) ≡ b ∷ without_returns bs = ap (λ r. if r then without_returns bs else (b ∷ without_returns bs)) stay in
    rw e (append_assoc kept (b ∷ []) (without_returns bs) ∙ ap (λ made. kept ++ made) (sym one) ∙ same)

pub passed_on : (kept rest all : List ℕ) → 1 ≤ length rest → is_return (get_or rest 0 0) (behind rest) ≡ true
    → kept ++ without_returns rest ≡ all → kept ++ without_returns (behind rest) ≡ all
passed_on kept [] all some goes same = absurd (omega arith)
passed_on kept (b ∷ bs) all some goes same =
    let e : behind (b ∷ bs) ≡ bs = take_rest (b ∷ bs) 1 in
    let go : is_return b bs ≡ true = ap (λ t. is_return b t) (sym e) ∙ goes in
    let one : without_returns (b ∷ bs) ≡ without_returns bs = ap (λ r. if r then without_returns bs else (b ∷ without_returns bs)) go in
    rw e (ap (λ made. kept ++ made) (sym one) ∙ same)

pub all_passed : (kept rest all : List ℕ) → length rest < 1 → kept ++ without_returns rest ≡ all → kept ≡ all
all_passed kept [] all none same = sym (append-nil kept) ∙ same
all_passed kept (b ∷ bs) all none same = absurd (omega arith)
