use Rattle.std.proofs.Common.{◌≡◌, ℕ, List, ◌++◌, length, map, take, drop, Bor, subst, sym, ap, ◌∙◌, arith}
use Rattle.std.proofs.Math.Seq.{take-append_seam}
use Rattle.std.proofs.lemmas.List.Elements.{All-map}
use Rattle.tcl_strings.specs.Levels.{HasNode}
use Rattle.tcl_strings.specs.Suffixes.{texts}
use Rattle.tcl_strings.specs.FirstKeys.{IsFirst, IsLeast}
use Rattle.tcl_strings.proofs.Numbering.{firsts_from}
use Rattle.tcl_strings.proofs.first_keys.firsts.Goals as goal

pub returns : goal.returns
returns c =
    let s = c.args.suffixes.now in
    let keys = map (λ (k : Bor (List ℕ)). k.now) c.args.keys.now in
    let nodes = All-map (HasNode (texts s)) (λ (k : Bor (List ℕ)). k.now) c.args.keys.now c.requires.keys in
    let own = c.in_ok-numbers.numbers.items in
    let least = c.take_least.new.numbers in
    let made : IsFirst (texts s) keys least = firsts_from (texts s) s.links.items s.edges c.requires.sound keys nodes own least c.in_ok-numbers.ensures
    (subst (λ o. IsLeast s.links.items o least) c.deref_mut.ensures.value c.take_least.ensures) in
    let size : c.in_ok-numbers.numbers.len ≡ length least = omega (arith, c.deref_mut.ensures.len, c.take_least.ensures.size) in
    subst (IsFirst (texts s) keys) (sym (ap (λ n. take n (least ++ drop (length least) own)) size ∙ take-append_seam least (drop (length least) own))) made
