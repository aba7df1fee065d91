-- A token more of a text.
use Rattle.std.proofs.Common.{◌≡◌, ℕ, ◌+◌, ◌-◌, ◌≤◌, List, length, length-drop, take, take_all, drop, drop-drop, Result, Ok, Err, sym, ap, subst, ◌∙◌, arith}
use Rattle.tmsh_read.specs.Reading.{Move, ends, stops, goes, Reads, ended, stopped, gone, answer}
use Rattle.tmsh_read.specs.Sketch.{Sketch}
use Rattle.tmsh_read.specs.declared.gap.Gap.{Gap}
use Rattle.tmsh_read.specs.declared.gap.Gap.TheVariants.{Within}

module _ (text : List ℕ) (at : ℕ) where
  abbrev rest : List ℕ
  rest = take (length text - at) (drop at text)

  rest_is : rest ≡ drop at text
  rest_is = take_all (length text - at) (drop at text) (omega (arith, length-drop at text))

  pub within_text : (n : ℕ) → at ≤ length text → n ≤ length rest → at + n ≤ length text
  within_text n inside fits = omega (arith, length-drop at text, ap length rest_is)

  module _ (gap : Gap) (s : Sketch) where
    answer_is : (move : Move) → move ≡ answer gap s rest → answer gap s (drop at text) ≡ move
    answer_is move e = sym (e ∙ ap (answer gap s) rest_is)

    pub ends_at : (t : Sketch) → ends t ≡ answer gap s rest → Reads gap s at (drop at text) (Ok t)
    ends_at t e = ended gap s at (drop at text) t (answer_is (ends t) e)

    pub stops_at : (n : ℕ) → stops n ≡ answer gap s rest → Reads gap s at (drop at text) (Err (at + n))
    stops_at n e = stopped gap s at (drop at text) n (answer_is (stops n) e)

    pub goes_at : (t : Sketch) (n : ℕ) (r : Result Sketch ℕ) → goes t n ≡ answer gap s rest → Reads Within t (at + n) (drop (at + n) text) r → Reads gap s at (drop at text) r
    goes_at t n r e more =
        gone gap s at (drop at text) t n r (answer_is (goes t n) e)
        (subst (λ bytes. Reads Within t (at + n) bytes r) (sym (drop-drop n at text)) more)
