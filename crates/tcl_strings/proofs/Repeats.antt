-- Texts repeated.
use Rattle.std.proofs.Common.{◌≡◌, ℕ, zero, suc, ◌+◌, List, [], ◌∷◌, ◌++◌, length, refl, ap, sym, ◌∙◌}
use Rattle.std.proofs.Common.{append_assoc, append-nil, add-one, arith}
use Rattle.std.specs.List.{repeat}

repeat_nothing : (n : ℕ) → [] ≡ repeat {A = ℕ} n []
repeat_nothing zero = refl
repeat_nothing (suc n) = repeat_nothing n

pub nothing_repeated : (n : ℕ) (text : List ℕ) → length text ≡ 0 → [] ≡ repeat n text
nothing_repeated n [] e = repeat_nothing n
nothing_repeated n (c ∷ cs) e = absurd (omega arith)

repeat_suc : (n : ℕ) (text : List ℕ) → repeat (suc n) text ≡ repeat n text ++ text
repeat_suc zero text = append-nil text
repeat_suc (suc n) text = ap (λ t. text ++ t) (repeat_suc n text) ∙ sym (append_assoc text (repeat n text) text)

-- one time more
pub repeat_more : (n : ℕ) (text : List ℕ) → repeat (n + 1) text ≡ repeat n text ++ text
repeat_more n text = ap (λ m. repeat m text) (add-one n) ∙ repeat_suc n text
