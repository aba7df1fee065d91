-- Texts round a mark, and marks of texts of several lines.
use Rattle.std.proofs.Common.{◌≡◌, ℕ, zero, suc, ◌+◌, ◌-◌, ◌<◌, ◌≤◌, Bool, List, [], ◌∷◌, length, take, drop}
use Rattle.std.proofs.Common.{ap, refl, sym, ◌∙◌, arith}
use Rattle.std.proofs.lemmas.List.{take_rest}
use Rattle.config.specs.KeyLines.{switched, turned}

-- what stands behind the first byte of what begins at a place
drop_one : (at : ℕ) (text : List ℕ) → drop 1 (drop at text) ≡ drop (suc at) text
drop_one zero text = refl
drop_one (suc at) [] = refl
drop_one (suc at) (b ∷ bs) = drop_one at bs

next : (at first : ℕ) → at ≡ first → suc at ≡ first + 1
next at first e = omega arith

pub rest_behind : (text : List ℕ) (at first : ℕ) → at ≡ first → take (length (take (length text - at) (drop at text)) - 1) (drop 1 (take (length text - at) (drop at text))) ≡ drop (first + 1) text
rest_behind text at first e =
    rw (take_rest text at) (take_rest (drop at text) 1 ∙ drop_one at text ∙ ap (λ k. drop k text) (next at first e))

-- what stands behind the first byte, as a pattern has it
abbrev behind : List ℕ → List ℕ
behind rest = take (length rest - 1) (drop 1 rest)

-- one byte is passed
pub turned_on : (on next final : Bool) (rest : List ℕ) → 1 ≤ length rest → next ≡ switched on rest
    → turned on rest ≡ final → turned next (behind rest) ≡ final
turned_on on next final [] some is same = absurd (omega arith)
turned_on on next final (b ∷ bs) some is same =
    let e : behind (b ∷ bs) ≡ bs = take_rest (b ∷ bs) 1 in
    rw (e, is) same

pub turned_all : (on final : Bool) (rest : List ℕ) → length rest < 1 → turned on rest ≡ final → on ≡ final
turned_all on final [] none same = same
turned_all on final (b ∷ bs) none same = absurd (omega arith)
