use Rattle.std.proofs.Common.{◌≡◌, ℕ, List, [], ◌∷◌, ◌++◌, Some, Bor, get_or, drop, length, map, sym, subst, ap, ◌∙◌, arith}
use Rattle.std.proofs.lemmas.List.{length-map, map-append}
use Rattle.tcl_strings.specs.Automaton.{IsAutomaton, IsUpTo}
use Rattle.tcl_strings.specs.Suffixes.{texts}
use Rattle.tcl_strings.proofs.Prefixes.{front_and_rest}
use Rattle.tcl_strings.proofs.Stepping.{longest_self}
use Rattle.tcl_strings.proofs.Growing.{IsNew, sound_by, tallest_by}
use Rattle.tcl_strings.proofs.suffixes.Suffixes.add.Goals as goal

more_texts : (nodes : List (Bor (List ℕ))) (t : Bor (List ℕ)) → map (λ n. n.now) (nodes ++ t ∷ []) ≡ map (λ n. n.now) nodes ++ t.now ∷ []
more_texts nodes t = map-append (λ (n : Bor (List ℕ)). n.now) nodes (t ∷ [])

pub returns-in-Some-clause-within : goal.returns-in-Some-clause-within
returns-in-Some-clause-within c =
    (c.requires.sound.leads c.args.behind (get_or c.args.suffix.now 0 0) c.in-Some.node (sym c.in-Some.ensures)).1

pub step-link-requires-clause-behind : goal.step-link-requires-clause-behind
step-link-requires-clause-behind c =
    longest_self (texts c.args.self.now) (length (texts c.args.self.now)) c.args.behind (drop 1 c.args.suffix.now) c.requires.within c.requires.behind

pub returns-clause-sound : goal.returns-clause-sound
returns-clause-sound c =
    let s = c.args.self.now in
    let byte = get_or c.args.suffix.now 0 0 in
    let size : length (texts s) ≡ length s.nodes.items = length-map s.nodes.items (λ (n : Bor (List ℕ)). n.now) in
    let at : c.len-node.result ≡ length (texts s) = omega (arith, size, c.len-node.ensures) in
    let new : IsNew (texts s) s.edges c.put.new.self c.args.behind byte c.step-link.result c.args.suffix.now = record {
      behind = c.requires.within;
      is = sym (ap (λ v. byte ∷ v) c.requires.behind ∙ front_and_rest c.args.suffix.now c.requires.some);
      none = sym c.in_default.ensures;
      link = c.step-link.ensures;
      tallest = c.requires.tallest;
      here = c.in_ok-put.ensures.here ∙ ap Some at;
      others = c.in_ok-put.ensures.others;
    } in
    let nodes = more_texts s.nodes.items c.args.suffix in
    subst (λ ts. IsAutomaton ts c.push-2.new.self.items c.put.new.self) (sym (ap (map (λ (n : Bor (List ℕ)). n.now)) c.in_ok-push.ensures.items ∙ nodes))
    (subst (λ ls. IsAutomaton (texts s ++ c.args.suffix.now ∷ []) ls c.put.new.self) (sym c.in_ok-push-2.ensures.items)
    (sound_by (texts s) s.links.items s.edges c.put.new.self c.requires.sound c.args.behind byte c.step-link.result c.args.suffix.now new))

pub returns-clause-tallest : goal.returns-clause-tallest
returns-clause-tallest c =
    let s = c.args.self.now in
    subst (λ ts. IsUpTo ts (length c.args.suffix.now)) (sym (ap (map (λ (n : Bor (List ℕ)). n.now)) c.in_ok-push.ensures.items ∙ more_texts s.nodes.items c.args.suffix))
    (tallest_by (texts s) c.args.suffix.now c.requires.tallest)
