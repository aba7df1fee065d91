-- A loop's move from its turns and what is done behind them.
use Rattle.std.proofs.Common.{◌≡◌, refl, sym, ℕ, zero, suc, ◌+◌, ◌≤◌, [], nat_eq, arith, rules, add-zero, add_assoc, false, ◌∙◌}
use Rattle.std.specs.Prelude.{IfOk, Option, Result, Ok, Err}
use Rattle.px_bytes.specs.declared.memory.Memory.{Memory}
use Rattle.tcl_vars.specs.Scopes.{Level, Scopes}
use Rattle.rule_model.specs.declared.code.Code.TheVariants.{Value}
use Rattle.rule_nodes.specs.Short.{purse}
use Rattle.frame_loops.specs.AtOnce.{DoesTurns, Turns, part_then, turn_unit}
use Rattle.frame_loops.specs.Loops.{Parts, above, next_move, test_move}
use Rattle.frames.specs.Moves.{back_under}
use Rattle.frames.specs.Reads.{Known, known}
use Rattle.frames.specs.Stills.{Makes, Spends, change_after, spends, spent, tally}
use Rattle.frames.specs.declared.frame.Frame.TheVariants as frame
use Rattle.frame_loops.specs.declared.loop_turns.Part as part
use Rattle.frame_loops.specs.declared.loop_turns.Part.TheVariants as code
use Rattle.frames.specs.declared.next.Next.{Next}

-- what is told where memory isn't refused
pub ok_made : (r : Result Next Memory) (P Q : Next → Type 0) → IfOk r P → ((n : Next) → P n → Q n) → IfOk r Q
ok_made (Ok n) P Q h f = f n h
ok_made (Err e) P Q h f = tt

-- nothing more is paid
pub spends_now : {budget paid ticked : ℕ} {next to : Next} → next ≡ to → Spends (spends budget to) paid ticked next budget paid ticked
spends_now {paid = paid} {ticked = ticked} e = record {
  pays = record { value_is = e; paid_is = sym (add-zero paid); ticked_is = sym (add-zero ticked) };
  budget_is = refl;
}

differs : (ticks : ℕ) → (ticks ≡ 0 → ⊥) → nat_eq ticks 0 ≡ false
differs zero h = absurd (h refl)
differs (suc n) h = search rules

pub test_first : (k : Known) (l : Parts) (n budget : ℕ) {ticks paid ticked budget' paid' ticked' : ℕ} {next : Next} → ticks ≡ 0
    → Spends (test_move k l n budget) paid ticked next budget' paid' ticked'
    → Spends (part_then k l code.Test n budget ticks) paid ticked next budget' paid' ticked'
test_first k l n budget e h = rw e h

pub test_later : (k : Known) (l : Parts) (n : ℕ) {budget ticks paid ticked : ℕ} {next : Next} → (ticks ≡ 0 → ⊥) → next ≡ back_under (frame.Next n) (Value [])
    → Spends (part_then k l code.Test n budget ticks) paid ticked next budget paid ticked
test_later k l n {ticks = ticks} h e = rw (differs ticks h) (spends_now e)

pub next_first : (k : Known) (l : Parts) (n budget : ℕ) {ticks paid ticked budget' paid' ticked' : ℕ} {next : Next} → ticks ≡ 0
    → Spends (next_move k l n budget) paid ticked next budget' paid' ticked'
    → Spends (part_then k l code.Next n budget ticks) paid ticked next budget' paid' ticked'
next_first k l n budget e h = rw e h

pub next_later : (k : Known) (l : Parts) (n : ℕ) {budget ticks paid ticked : ℕ} {next : Next} → (ticks ≡ 0 → ⊥) → next ≡ above k l.next (frame.Next n)
    → Spends (part_then k l code.Next n budget ticks) paid ticked next budget paid ticked
next_later k l n {ticks = ticks} h e = rw (differs ticks h) (spends_now e)

pub turns_made : {statics : Option Level} {l : Parts} {from : part.Part} {to : part.Part}
    {n n' budget paid ticked budget' paid' budget'' paid'' mid ticked'' : ℕ}
    {vars vars' : Scopes} {next : Next} (ticks : ℕ) → DoesTurns statics l from to n n' vars budget paid vars' budget' paid'
    → ticks + turn_unit to + paid ≤ paid'
    → mid ≡ ticked + ticks → Spends (part_then (known statics vars') l to n' budget' ticks) paid' mid next budget'' paid'' ticked''
    → Makes (Turns statics l from n vars budget) (tally vars budget paid ticked) next (tally vars' budget'' paid'' ticked'')
turns_made {statics = statics} {l = l} {to = to} {n' = n'} {paid = paid} {ticked = ticked} {budget' = budget'} {vars' = vars'} ticks d h m s =
    let s' = part_then (known statics vars') l to n' budget' ticks in
    let p = d.paid_is in
    let q = s.pays.paid_is in
    let t = s.pays.ticked_is in
    record {
      change = change_after d.cost ticks (spent vars' s');
      is = record {
        to = to;
        turns' = n';
        left = purse vars' budget' d.cost;
        ticks = ticks;
        does = record { things = d.things; cost = d.cost; does = d.does; in_scripts = d.in_scripts; paid_is = omega arith };
        pays = omega (arith, h, p);
        change_is = refl;
      };
      leads = record {
        next_is = s.pays.value_is;
        vars_are = refl;
        budget_is = s.budget_is;
        paid_is = q ∙ (rw p (add_assoc paid d.cost s'.move.cost));
        ticked_is = t ∙ (rw m (add_assoc ticked ticks s'.move.ticks));
      };
    }
