use Rattle.std.proofs.Common.{◌≡◌, ◌<◌, ◌+◌, ℕ, List, [], ◌∷◌, ◌++◌, length, take, subst, sym, ap, ◌∙◌, refl, arith, Bor, Vec, Global, get_or}
use Rattle.std.specs.List.{All}
use Rattle.std.proofs.lemmas.List.{take_all}
use Rattle.std.proofs.lemmas.List.Elements.{All-push}
use Rattle.std.proofs.lemmas.Bool.Decides.{nat_tests}
use Rattle.tcl_strings.specs.declared.levels.Climb.{Climb}
use Rattle.tcl_strings.specs.Levels.{IsAtDepth, IsOnItsWay}
use Rattle.tcl_strings.proofs.Climbing.{whole_with, whole_on, no_growth, first_risen, first_entered}
use Rattle.tcl_strings.proofs.levels.first_level.Goals as goal
use Rattle.tcl_strings.proofs.levels.first_level.Goals.{then-not-is_empty+in_ok-push, else-not-is_empty}

pub loop-key-preserved : goal.loop-key-preserved
loop-key-preserved c =
    let keys = c.args.keys.now in
    let i = c.loop-key.key-index in
    let key : Bor (List ℕ) = get_or keys i (record { ref_ptr = (0, 0); now = [] }) in
    let level = c.loop-key.level.items in
    let now = λ (k : Bor (List ℕ)). k.now in
    elim c.if-not-is_empty.branch [
      | then-not-is_empty+in_ok-push w ↦
          let climb : Climb = record { key = key; node = 0 } in
          let items : c.if-not-is_empty.level.items ≡ level ++ climb ∷ [] = ap (λ (v : Vec Climb Global). v.items) w.level-is ∙ w.in_ok-push.ensures.items in
          let some : 0 < length key.now = grind (arith, nat_tests) in (
            subst (λ l. All (IsAtDepth ([] ∷ []) 0) l) (sym items) (All-push (IsAtDepth ([] ∷ []) 0) level climb c.loop-key.invariant.0 (first_risen key some)),
            subst (λ l. All (λ k. IsOnItsWay ([] ∷ []) l (now k)) (take (i + 1) keys)) (sym items)
                (whole_on now ([] ∷ []) ([] ∷ []) (no_growth ([] ∷ [])) keys i (record { ref_ptr = (0, 0); now = [] }) c.loop-key-test.true level c.loop-key.invariant.1 climb refl),
          )
      | else-not-is_empty w ↦
          let items : c.if-not-is_empty.level.items ≡ level = ap (λ (v : Vec Climb Global). v.items) w.level-is in
          let none : length key.now ≡ 0 = grind (arith, nat_tests) in (
            subst (λ l. All (IsAtDepth ([] ∷ []) 0) l) (sym items) c.loop-key.invariant.0,
            subst (λ l. All (λ k. IsOnItsWay ([] ∷ []) l (now k)) (take (i + 1) keys)) (sym items)
                (whole_with now ([] ∷ []) ([] ∷ []) (no_growth ([] ∷ [])) keys i (record { ref_ptr = (0, 0); now = [] }) c.loop-key-test.true level c.loop-key.invariant.1 (first_entered key.now none)),
          )
    ]

pub returns-clause-whole : goal.returns-clause-whole
returns-clause-whole c =
    subst (All (λ (k : Bor (List ℕ)). IsOnItsWay ([] ∷ []) c.loop-key.level.items k.now)) (take_all c.loop-key.key-index c.args.keys.now c.loop-key-test.false) c.loop-key.invariant.1
