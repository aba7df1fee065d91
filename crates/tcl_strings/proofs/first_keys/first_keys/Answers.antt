use Rattle.std.proofs.Common.{◌≡◌, ◌<◌, ◌-◌, ◌+◌, ℕ, List, [], ◌∷◌, length, map, drop, get_or, Bor, subst, sym, ap, ◌∙◌, arith, length-append}
use Rattle.std.proofs.lemmas.List.{drop_all, drop_more, length-drop, get_or_read}
use Rattle.std.proofs.lemmas.List.Elements.{All-map}
use Rattle.tcl_strings.specs.Levels.{HasNode}
use Rattle.tcl_strings.specs.Suffixes.{IsLongestNode, texts}
use Rattle.tcl_strings.specs.FirstKeys.{first_number, IsTable}
use Rattle.tcl_strings.proofs.Climbing.{from_place, behind_place}
use Rattle.tcl_strings.proofs.Stepping.{longest_self}
use Rattle.tcl_strings.proofs.Numbering.{longest_number, table_push}
use Rattle.tcl_strings.proofs.first_keys.first_keys.Goals as goal

pub loop-place-init : goal.loop-place-init
loop-place-init c =
    let s = c.in_ok-suffixes.suffixes in
    let text = c.args.text.now in
    let keys = map (λ (k : Bor (List ℕ)). k.now) c.args.keys.now in
    let sound = c.in_ok-suffixes.ensures.sound in
    let none : drop (length text) text ≡ [] = drop_all (length text) text (omega arith) in
    record {
      within = omega (arith, ap length c.new-numbers.ensures.items);
      node = subst (λ t. IsLongestNode s t 0) (sym none) (longest_self (texts s) (length (texts s)) 0 [] sound.rooted sound.root);
      table = subst (IsTable keys c.new-numbers.result.items) (sym none) tt;
    }

pub step-node-requires-clause-behind : goal.step-node-requires-clause-behind
step-node-requires-clause-behind c =
    let s = c.in_ok-suffixes.suffixes in
    subst (λ t. IsLongestNode s t c.loop-place.node) (behind_place c.loop-place.place c.args.text.now c.loop-place-test.true) c.loop-place.invariant.node

pub loop-place-preserved : goal.loop-place-preserved
loop-place-preserved c =
    let s = c.in_ok-suffixes.suffixes in
    let sound = c.in_ok-suffixes.ensures.sound in
    let text = c.args.text.now in
    let keys = map (λ (k : Bor (List ℕ)). k.now) c.args.keys.now in
    let nodes = All-map (HasNode (texts s)) (λ (k : Bor (List ℕ)). k.now) c.args.keys.now c.in_ok-suffixes.ensures.keys in
    let place = c.loop-place.place - 1 in
    let within : place < length text = omega (arith, c.loop-place.invariant.within, c.loop-place-test.true) in
    let again : place + 1 ≡ c.loop-place.place = omega (arith, c.loop-place-test.true) in
    let byte = get_or text place 0 in
    let front : drop place text ≡ byte ∷ drop c.loop-place.place text = drop_more text place 0 within ∙ ap (λ n. byte ∷ drop n text) again in
    let node = c.step-node.result in
    let longest : IsLongestNode s (drop place text) node = subst (λ t. IsLongestNode s t node) (from_place place text) c.step-node.ensures in
    let number : c.index.result.now ≡ first_number keys (byte ∷ drop c.loop-place.place text) =
    get_or_read c.in_ok-firsts.firsts.items node c.index.result.now (omega (arith, c.in_ok-firsts.ensures.size, longest.within)) c.index.ensures 0
    ∙ c.in_ok-firsts.ensures.at node longest.within
    ∙ sym (longest_number (texts s) s.links.items s.edges sound (drop place text) node longest keys nodes)
    ∙ ap (first_number keys) front in
    let size : length c.loop-place.numbers.items ≡ length (drop c.loop-place.place text) = omega (arith, c.loop-place.invariant.within, length-drop c.loop-place.place text) in
    let items = c.in_ok-push.ensures.items in
    record {
      within = omega (arith, ap length items, length-append c.loop-place.numbers.items (c.index.result.now ∷ []), c.loop-place.invariant.within, c.loop-place-test.true);
      node = longest;
      table = subst (λ t. IsTable keys c.push.new.self.items t) (sym front) (subst (λ l. IsTable keys l (byte ∷ drop c.loop-place.place text)) (sym items)
          (table_push keys c.loop-place.numbers.items c.index.result.now byte (drop c.loop-place.place text) c.loop-place.invariant.table size number));
    }
