use Rattle.std.proofs.Common.{◌≡◌, ◌+◌, ◌-◌, [], ◌∷◌, ◌++◌, length, take, drop, subst, sym, ap, ◌∙◌, refl, arith, Vec, Global, get_or}
use Rattle.std.specs.List.{All}
use Rattle.std.proofs.lemmas.List.{take_all, length-drop}
use Rattle.std.proofs.lemmas.List.Elements.{All-push, All-weaker}
use Rattle.tcl_strings.specs.declared.levels.Climb.{Climb}
use Rattle.tcl_strings.specs.Automaton.{IsUpTo, text_at}
use Rattle.tcl_strings.specs.Suffixes.{texts}
use Rattle.tcl_strings.specs.Levels.{IsAtDepth, IsOnItsWay}
use Rattle.tcl_strings.proofs.Climbing.{whole_with, whole_on, depth_still, entered, risen, grown, from_place, behind_place}
use Rattle.tcl_strings.proofs.levels.next_level.Goals as goal
use Rattle.tcl_strings.proofs.levels.next_level.Goals.{then-suffix-climb+in_ok-push, else-suffix-climb}

abbrev none : Climb
none = record { key = record { ref_ptr = (0, 0); now = [] }; node = 0 }

pub add-requires-clause-behind : goal.add-requires-clause-behind
add-requires-clause-behind c =
    let at : IsAtDepth (texts c.args.suffixes.now) c.args.depth (get_or c.args.level.now c.loop-climb.climb-index none) = c.requires.level c.loop-climb.climb-index none c.loop-climb-test.true in
    let still = depth_still (texts c.args.suffixes.now) (texts c.loop-climb.suffixes) c.loop-climb.invariant.grows c.args.depth _ at in
    let key = (get_or c.args.level.now c.loop-climb.climb-index none).key.now in
    still.is ∙ behind_place (length key - c.args.depth) key (omega (arith, at.more))

pub loop-climb-preserved : goal.loop-climb-preserved
loop-climb-preserved c =
    let level = c.args.level.now in
    let i = c.loop-climb.climb-index in
    let climb : Climb = get_or level i none in
    let key = climb.key.now in
    let depth = c.args.depth in
    let place = length key - depth - 1 in
    let old = texts c.loop-climb.suffixes in
    let more = texts c.add.new.self in
    let next = c.loop-climb.next.items in
    let made = c.in_ok-node.ensures in
    let at : IsAtDepth (texts c.args.suffixes.now) depth climb = c.requires.level i none c.loop-climb-test.true in
    let same = from_place place key in
    let size : length (take (length key - place) (drop place key)) ≡ depth + 1 = omega (arith, ap length same, length-drop place key, at.more) in
    let tallest : IsUpTo more (depth + 1) = λ k kn. omega (arith, made.tallest k kn, size) in
    let is : text_at more c.in_ok-node.node ≡ drop place key = made.is ∙ same in
    let deep = All-weaker (IsAtDepth old (depth + 1)) (IsAtDepth more (depth + 1)) (λ x h. depth_still old more made.grows (depth + 1) x h) next c.loop-climb.invariant.depth in
    let grows = grown (texts c.args.suffixes.now) old more c.loop-climb.invariant.grows made.grows in
    let key_of = λ (x : Climb). x.key.now in
    elim c.if-suffix-climb.branch [
      | then-suffix-climb+in_ok-push w ↦
          let new : Climb = record { key = climb.key; node = c.in_ok-node.node } in
          let items : c.if-suffix-climb.next.items ≡ next ++ new ∷ [] = ap (λ (v : Vec Climb Global). v.items) w.next-is ∙ w.in_ok-push.ensures.items in
          record {
            sound = made.sound;
            grows = grows;
            tallest = tallest;
            depth = subst (λ l. All (IsAtDepth more (depth + 1)) l) (sym items) (All-push (IsAtDepth more (depth + 1)) next new deep
                (risen more depth climb.key c.in_ok-node.node at.more made.within is (omega (arith, size, w.if-suffix-climb.true))));
            whole = subst (λ l. All (λ x. IsOnItsWay more l (key_of x)) (take (i + 1) level)) (sym items)
                (whole_on key_of old more made.grows level i none c.loop-climb-test.true next c.loop-climb.invariant.whole new refl);
          }
      | else-suffix-climb w ↦
          let items : c.if-suffix-climb.next.items ≡ next = ap (λ (v : Vec Climb Global). v.items) w.next-is in
          record {
            sound = made.sound;
            grows = grows;
            tallest = tallest;
            depth = subst (λ l. All (IsAtDepth more (depth + 1)) l) (sym items) deep;
            whole = subst (λ l. All (λ x. IsOnItsWay more l (key_of x)) (take (i + 1) level)) (sym items)
                (whole_with key_of old more made.grows level i none c.loop-climb-test.true next c.loop-climb.invariant.whole
                (entered more depth climb.key c.in_ok-node.node at.more made.within is (omega (arith, size, w.if-suffix-climb.false))));
          }
    ]

pub returns-clause-whole : goal.returns-clause-whole
returns-clause-whole c =
    subst (All (λ (x : Climb). IsOnItsWay (texts c.loop-climb.suffixes) c.loop-climb.next.items x.key.now)) (take_all c.loop-climb.climb-index c.args.level.now c.loop-climb-test.false) c.loop-climb.invariant.whole
