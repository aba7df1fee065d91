use Rattle.std.proofs.Common.{◌≡◌, ◌≢◌, ◌<◌, ◌-◌, ◌+◌, ℕ, List, [], length, map, drop, get_or, Bor, sym, ap, ◌∙◌, arith}
use Rattle.std.proofs.lemmas.List.{get_or-map, get_or-set_same, get_or-set_other, length-map, length-set}
use Rattle.tcl_strings.specs.Automaton.{text_at}
use Rattle.tcl_strings.specs.Suffixes.{texts}
use Rattle.tcl_strings.specs.FirstKeys.{same_number}
use Rattle.tcl_strings.proofs.Numbering.{longest_is, own_step}
use Rattle.tcl_strings.proofs.first_keys.own_numbers.Goals as goal

pub loop-number-preserved : goal.loop-number-preserved
loop-number-preserved c =
    let s = c.args.suffixes.now in
    let keys = map (λ (k : Bor (List ℕ)). k.now) c.args.keys.now in
    let number = c.loop-number.number - 1 in
    let own = c.loop-number.numbers.items in
    let node = c.longest-node.result in
    let none : Bor (List ℕ) = record { ref_ptr = (0, 0); now = [] } in
    let size : length keys ≡ length c.args.keys.now = length-map c.args.keys.now (λ (k : Bor (List ℕ)). k.now) in
    let within : number < length c.args.keys.now = omega (arith, c.loop-number.invariant.within, c.loop-number-test.true) in
    let again : number + 1 ≡ c.loop-number.number = omega (arith, c.loop-number-test.true) in
    let key : text_at (texts s) node ≡ get_or keys number [] =
    longest_is (texts s) (get_or c.args.keys.now number none).now node c.longest-node.ensures (c.requires.keys number none within)
    ∙ sym (get_or-map (λ (k : Bor (List ℕ)). k.now) c.args.keys.now number none [] within) in
    record {
      within = omega (arith, within);
      size = length-set own node number ∙ c.loop-number.invariant.size;
      at = own_step (texts s) s.links.items s.edges c.requires.sound keys own number node (omega (arith, size, within)) c.longest-node.ensures.within key c.loop-number.invariant.size
          (λ i kn. c.loop-number.invariant.at i kn ∙ ap (λ n. n + same_number (drop n keys) (text_at (texts s) i)) (sym again));
    }

pub returns : goal.returns
returns c =
    let s = c.args.suffixes.now in
    let own = c.loop-number.numbers.items in
    let keys = map (λ (k : Bor (List ℕ)). k.now) c.args.keys.now in
    let count = length c.args.keys.now in
    let some : 0 < length own = omega (arith, c.loop-number.invariant.size, c.requires.sound.rooted) in
    let none : c.loop-number.number ≡ 0 = omega (arith, c.loop-number-test.false) in
    record {
      size = length-set own 0 count ∙ c.loop-number.invariant.size;
      root = get_or-set_same own 0 count 0 some ∙ sym (length-map c.args.keys.now (λ (k : Bor (List ℕ)). k.now));
      at = λ i above kn.
          let apart : i ≢ 0 = omega arith in
          omega (arith, get_or-set_other own 0 i count 0 apart, c.loop-number.invariant.at i kn, ap (λ n. same_number (drop n keys) (text_at (texts s) i)) none);
    }
