use Rattle.std.proofs.Common.{◌≡◌, ◌<◌, get_or, drop, length, sym, subst, ◌∙◌, arith}
use Rattle.std.proofs.lemmas.List.{get_or_default}
use Rattle.tcl_strings.specs.Suffixes.{IsLongestNode, texts}
use Rattle.tcl_strings.proofs.Prefixes.{front_and_rest}
use Rattle.tcl_strings.proofs.Stepping.{IsCandidate, started, found, stopped, followed}
use Rattle.tcl_strings.proofs.suffixes.Suffixes.step.Goals as goal

pub loop-longer-init : goal.loop-longer-init
loop-longer-init c =
    let s = c.args.self.now in
    started (texts s) s.links.items s.edges c.requires.sound (get_or c.args.text.now 0 0) (drop 1 c.args.text.now) c.args.behind c.requires.behind

pub returns-in-Some : goal.returns-in-Some
returns-in-Some c =
    let s = c.args.self.now in
    subst (λ t. IsLongestNode s t c.in-Some.longer) (front_and_rest c.args.text.now c.requires.some)
    (found (texts s) s.links.items s.edges c.requires.sound (get_or c.args.text.now 0 0) (drop 1 c.args.text.now) c.loop-longer.node c.in-Some.longer c.loop-longer.invariant (sym c.in-Some.ensures))

pub returns-then-node-eq0 : goal.returns-then-node-eq0
returns-then-node-eq0 c =
    let s = c.args.self.now in
    subst (λ t. IsLongestNode s t 0) (front_and_rest c.args.text.now c.requires.some)
    (stopped (texts s) s.links.items s.edges c.requires.sound (get_or c.args.text.now 0 0) (drop 1 c.args.text.now) c.loop-longer.node c.loop-longer.invariant c.if-node-eq0.true (sym c.in_default.ensures))

pub loop-longer-preserved : goal.loop-longer-preserved
loop-longer-preserved c =
    let s = c.args.self.now in
    let next = followed (texts s) s.links.items s.edges c.requires.sound (get_or c.args.text.now 0 0) (drop 1 c.args.text.now) c.loop-longer.node c.loop-longer.invariant (omega arith) (sym c.in_default.ensures) in
    let within : c.loop-longer.node < length s.links.items = omega (arith, c.requires.sound.linked, c.loop-longer.invariant.within) in
    let is : get_or s.links.items c.loop-longer.node 0 ≡ c.index-node.result.now =
    get_or_default s.links.items c.loop-longer.node 0 c.index-node.result.now within ∙ sym c.index-node.ensures in
    subst (λ x. IsCandidate (texts s) (get_or c.args.text.now 0 0) (drop 1 c.args.text.now) x) is next.0
