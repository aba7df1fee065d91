-- A script's moves, as its code makes them.
use Rattle.std.proofs.Common.{◌≡◌, refl, sym, ℕ, ◌+◌, ◌-◌, ◌<◌, ◌≤◌, List, length, drop, Bool, true, false, Option, Some, max, min, nat_le, arith, add-zero}
use Rattle.std.proofs.lemmas.Bool.Decides.{nat_tests}
use Rattle.tcl_trees.specs.Tree.{Tree}
use Rattle.tcl_vars.specs.Scopes.{Level, Scopes}
use Rattle.rule_model.specs.Setting.{Setting}
use Rattle.rule_model.specs.declared.code.Code.{Code}
use Rattle.rule_model.specs.declared.code.Code.TheVariants.{Value, Raised, Return, Break, Continue}
use Rattle.rule_nodes.specs.AtOnce.{DoesFront}
use Rattle.rule_nodes.specs.Short.{purse, short_front}
use Rattle.frame_words.specs.Scripts.{GoesFrom, is_value, script_then, unheard}
use Rattle.frames.specs.Children.{commands_of}
use Rattle.frames.specs.Moves.{back_under, goes_on, stop}
use Rattle.frames.specs.Owed.{mode_owed}
use Rattle.frame_words.specs.Scripts.{script_from}
use Rattle.frames.specs.Stills.{Leads, Makes, Tally, change_after, changes, tally}
use Rattle.frames.specs.declared.frame.Frame.TheVariants as frame
use Rattle.frames.specs.declared.frame.Mode.TheVariants as mode
use Rattle.frames.specs.declared.frame.Room.{Room}
use Rattle.frames.specs.declared.next.Next.{Next}
use Rattle.frame_words.proofs.InFronts.{goes_from_owes, script_goes, script_stops}
use Rattle.frame_words.proofs.InScripts.{script_ticks}
use Rattle.frames.proofs.InStills.{pass_bounded}
use Rattle.frames.proofs.SoundMoves.{Sound}

-- how far a move goes
pub unheard_most : (n : ℕ) (w : Bool) → unheard n w ≤ n
unheard_most n true = omega arith
unheard_most n false = omega arith

pub two_done : (at most end u count reached limit : ℕ) → most ≡ min (at + 4) limit → end ≡ min u most → u ≤ count → count ≤ limit → at < reached
    → reached ≤ max at end → most ≤ reached → (reached ≡ count → ⊥) → 2 ≤ reached - at
two_done at most end u count reached limit m e h l a r k n = omega (arith, m, e, h, l, a, r, k, n)

pub goes_within : (at most end u reached : ℕ) → end ≡ min u most → reached ≤ max at end → 0 < reached - at → at + (reached - at) ≤ u
goes_within at most end u reached e r some = omega (arith, e, r, some)

-- so many commands are done at once, for this cost
pub record Done (statics : Option Level) (t : Tree) (at done : ℕ) (w : Bool) (vars : Scopes) (budget paid : ℕ) (vars' : Scopes)
    (budget' paid' : ℕ) : Type 0 where
  pub cost : ℕ
  pub does : short_front statics done (drop at (commands_of t)) (purse vars budget 0) ≡ Some (purse vars' budget' cost)
  pub goes_unheard : 0 < done → at + done ≤ unheard (length (commands_of t)) w
  pub paid_is : paid' ≡ paid + cost

pub done_by : (statics : Option Level) (t : Tree) (ts : List Tree) (at n done : ℕ) (w : Bool) (vars : Scopes) (budget paid : ℕ) (vars' : Scopes)
    (budget' paid' : ℕ) → ts ≡ commands_of t → n ≡ done → (0 < done → at + done ≤ unheard (length (commands_of t)) w)
    → DoesFront statics (drop at ts) n vars budget paid vars' budget' paid' → Done statics t at done w vars budget paid vars' budget' paid'
done_by statics t ts at n done w vars budget paid vars' budget' paid' e f h d = record {
  cost = d.cost;
  does = (let z : 0 + d.cost ≡ d.cost = omega arith in rw (← e, ← f) (rw z at (d.does 0)));
  goes_unheard = h;
  paid_is = d.paid_is;
}

module _ (statics : Option Level) (t : Tree) (at done : ℕ) (last : List ℕ) (w : Bool) (vars : Scopes) (budget paid : ℕ) (vars' : Scopes)
    (budget' paid' : ℕ) where
  -- the script goes on in the same move
  pub goes_at : (to ticked ticked' budget'' paid'' : ℕ) (next : Next) → to ≡ at + done → ticked' ≡ ticked + done
      → Done statics t at done w vars budget paid vars' budget' paid'
      → next ≡ (script_from statics vars' t to last w budget').move.next → budget'' ≡ (script_from statics vars' t to last w budget').budget
      → paid'' ≡ paid' + (script_from statics vars' t to last w budget').move.cost
      → Makes (GoesFrom statics t at last w vars budget) (tally vars budget paid ticked) next (tally vars' budget'' paid'' ticked')
  goes_at to ticked ticked' budget'' paid'' next e f d n b p = record {
    change = change_after d.cost done (script_then statics vars' t (at + done) last w budget' false);
    is = record {
      done = done;
      left = purse vars' budget' d.cost;
      rests = false;
      does = d.does;
      goes_unheard = d.goes_unheard;
      rests_behind = λ e. absurd (cc e);
      change_is = refl;
    };
    leads = record {
      next_is = rw (← e) n;
      vars_are = refl;
      budget_is = rw (← e) b;
      paid_is = let q = d.paid_is in rw (← e) (omega (arith, p, q));
      ticked_is = let z = script_ticks statics vars' t to last w budget' in rw (← e) (omega (arith, f, z));
    };
  }

  -- the script rests behind the last that was done
  pub rests_at : (to ticked ticked' : ℕ) (next : Next) → to + 1 ≡ at + done → ticked' ≡ ticked + done → 2 ≤ done
      → Done statics t at done w vars budget paid vars' budget' paid' → next ≡ back_under (frame.Script to false) (Value last)
      → Makes (GoesFrom statics t at last w vars budget) (tally vars budget paid ticked) next (tally vars' budget' paid' ticked')
  rests_at to ticked ticked' next e f two d n = record {
    change = change_after d.cost done (script_then statics vars' t (at + done) last w budget' true);
    is = record {
      done = done;
      left = purse vars' budget' d.cost;
      rests = true;
      does = d.does;
      goes_unheard = d.goes_unheard;
      rests_behind = λ e. two;
      change_is = refl;
    };
    leads = record {
      next_is = let k : at + done - 1 ≡ to = omega (arith, e) in rw k n;
      vars_are = refl;
      budget_is = refl;
      paid_is = let q = d.paid_is in omega (arith, q);
      ticked_is = omega (arith, f);
    };
  }

-- behind the last command the script ends
over_from : (statics : Option Level) (t : Tree) (at : ℕ) (last : List ℕ) (w b : Bool) (vars : Scopes) (budget : ℕ) → nat_le (length (commands_of t)) at ≡ b
    → length (commands_of t) ≤ at
    → script_from statics vars t at last w budget ≡ record { move = record { next = stop (Value last); cost = 0; ticks = 0 }; budget = budget }
over_from statics t at last w true vars budget e h = rw e refl
over_from statics t at last w false vars budget e h = absurd (let more : at < length (commands_of t) = grind (arith, nat_tests) in omega (arith, h, more))

pub over_makes : (statics : Option Level) (t : Tree) (at : ℕ) (last : List ℕ) (w : Bool) (vars : Scopes) (budget paid ticked : ℕ) (next : Next)
    → length (commands_of t) ≤ at → next ≡ stop (Value last)
    → Makes (GoesFrom statics t at last w vars budget) (tally vars budget paid ticked) next (tally vars budget paid ticked)
over_makes statics t at last w vars budget paid ticked next h n =
    let o = over_from statics t at last w (nat_le (length (commands_of t)) at) vars budget refl h in
    goes_at statics t at 0 last w vars budget paid vars budget paid at ticked ticked budget paid next (sym (add-zero at)) (sym (add-zero ticked))
    (record { cost = 0; does = refl; goes_unheard = λ some. absurd (omega (arith, some)); paid_is = sym (add-zero paid) })
    (rw o n) (rw o refl) (rw o (sym (add-zero paid)))

-- the moves of a script behind a command
stopped : {H : Type 0} (g : Setting H) (r : Room) (t : Tree) (at : ℕ) (v w : Bool) (code : Code) (vars : Scopes) (budget : ℕ) (a b : Tally) (next : Next)
    → is_value code ≡ false → Leads (changes budget vars (stop code)) a next b
    → Makes (Sound g r w g.procedures t (goes_on g r t (frame.Script at v) code) (mode_owed (mode.Back code)) vars budget) a next b
stopped g r t at v w code vars budget a b next e l = record {
  change = changes budget vars (stop code);
  is = record { comes = script_stops g r t at v w code vars budget e; bounded = pass_bounded code };
  leads = l;
}

pub script_went : {H : Type 0} (g : Setting H) (r : Room) (t : Tree) (at : ℕ) (v w : Bool) (code : Code) (vars : Scopes) (budget : ℕ) (a b : Tally)
    (next : Next) → ((x : List ℕ) → code ≡ Value x → Makes (GoesFrom g.statics t (at + 1) x w vars budget) a next b)
    → (is_value code ≡ false → Leads (changes budget vars (stop code)) a next b)
    → Makes (Sound g r w g.procedures t (goes_on g r t (frame.Script at v) code) (mode_owed (mode.Back code)) vars budget) a next b
script_went g r t at v w (Value x) vars budget a b next goes stops =
    let m = goes x refl in
    record {
      change = m.change;
      is = record {
        comes = script_goes g r t at v w x vars budget m.change m.is;
        bounded = goes_from_owes g.procedures g.statics t (at + 1) x w vars budget m.change m.is;
      };
      leads = m.leads;
    }
script_went g r t at v w (Raised f) vars budget a b next goes stops = stopped g r t at v w (Raised f) vars budget a b next refl (stops refl)
script_went g r t at v w (Return x) vars budget a b next goes stops = stopped g r t at v w (Return x) vars budget a b next refl (stops refl)
script_went g r t at v w Break vars budget a b next goes stops = stopped g r t at v w Break vars budget a b next refl (stops refl)
script_went g r t at v w Continue vars budget a b next goes stops = stopped g r t at v w Continue vars budget a b next refl (stops refl)
