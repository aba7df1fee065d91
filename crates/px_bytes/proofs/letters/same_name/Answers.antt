use Rattle.std.proofs.Common.{◌≡◌, ℕ, length, get_or, sym, refl, ◌∙◌, arith, below_more}
use Rattle.std.proofs.lemmas.Bool.{false≢true}
use Rattle.std.proofs.lemmas.List.{length_push}
use Rattle.std.proofs.lemmas.Slice.Zip.{zip_turn, zip_end}
use Rattle.std.specs.Char.{to_ascii_lowercase}
use Rattle.std.specs.Iterator.Adapters.{zip_first, zip_second}
use Rattle.std.specs.Slice.Iter.{iter_rest}
use Rattle.px_bytes.proofs.Lowered.{same_lowered, differs_here, same_here}
use Rattle.px_bytes.proofs.letters.same_name.Goals as goal

pub returns-then-not-eq_ignore_ascii_case : goal.returns-then-not-eq_ignore_ascii_case
returns-then-not-eq_ignore_ascii_case c =
    let first : iter_rest (zip_first c.into_iter-x-iterator.result) ≡ c.args.a.now = cc in
    let second : iter_rest (zip_second c.into_iter-x-iterator.result) ≡ c.args.b.now = cc in
    let turn = zip_turn c.args.a.now c.args.b.now c.loop-x.yielded c.into_iter-x-iterator.result c.loop-x.x-iterator c.next.new.self c.next.result first second c.loop-x.yielded_by (c.in-Some.x, c.in-Some.y) c.in-Some.is c.next.ensures.steps in
    (λ never. absurd (false≢true never), λ same. absurd (differs_here c.args.a.now c.args.b.now (length c.loop-x.yielded) _ _ turn.0 turn.1 (turn.2 0) (turn.3 0) (sym c.eq_ignore_ascii_case.ensures ∙ c.if-not-eq_ignore_ascii_case.true) same))

pub loop-x-preserved : goal.loop-x-preserved
loop-x-preserved c =
    let first : iter_rest (zip_first c.into_iter-x-iterator.result) ≡ c.args.a.now = cc in
    let second : iter_rest (zip_second c.into_iter-x-iterator.result) ≡ c.args.b.now = cc in
    let turn = zip_turn c.args.a.now c.args.b.now c.loop-x.yielded c.into_iter-x-iterator.result c.loop-x.x-iterator c.next.new.self c.next.result first second c.loop-x.yielded_by (c.in-Some.x, c.in-Some.y) c.in-Some.is c.next.ensures.steps in
    let here = same_here c.args.a.now c.args.b.now (length c.loop-x.yielded) _ _ (turn.2 0) (turn.3 0) (sym c.eq_ignore_ascii_case.ensures ∙ c.if-not-eq_ignore_ascii_case.false) in
    let more = below_more (λ (k : ℕ). to_ascii_lowercase (get_or c.args.a.now k 0) ≡ to_ascii_lowercase (get_or c.args.b.now k 0)) (length c.loop-x.yielded) c.loop-x.invariant here in
    λ k h. more k (omega (arith, length_push c.loop-x.yielded (c.in-Some.x, c.in-Some.y)))

pub returns : goal.returns
returns c =
    let first : iter_rest (zip_first c.into_iter-x-iterator.result) ≡ c.args.a.now = cc in
    let second : iter_rest (zip_second c.into_iter-x-iterator.result) ≡ c.args.b.now = cc in
    let all = zip_end c.args.a.now c.args.b.now c.loop-x.yielded c.into_iter-x-iterator.result c.loop-x.x-iterator c.next.new.self c.next.result first second c.loop-x.yielded_by c.in-None.is c.next.ensures.steps in
    let sizes : length c.args.a.now ≡ length c.args.b.now = omega arith in
    (λ t. same_lowered c.args.a.now c.args.b.now sizes (λ k h. c.loop-x.invariant k (omega arith)), λ same. refl)
