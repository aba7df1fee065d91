-- What a command does with its words, in one move.
use Rattle.std.specs.Prelude.{◌≡◌, ℕ, List, ◌++◌, Bool, Option, None}
use Rattle.px_bytes.specs.declared.fault.Reply.{Reply}
use Rattle.tcl_trees.specs.declared.node.Verb.{Verb}
use Rattle.tcl_vars.specs.Scopes.{Scopes}
use Rattle.rule_model.specs.Commands.{command}
use Rattle.rule_model.specs.Host.{Effect, HostStep}
use Rattle.rule_model.specs.Outcome.{Act, Ends, Meaning, answered, ask, heard, state}
use Rattle.rule_model.specs.Setting.{Setting, Inner}
use Rattle.frames.specs.Moves.{stop}
use Rattle.frames.specs.Went.{CalledBy, IsCall, effects_in}
use Rattle.frame_words.specs.declared.commands.Done.{Done}
use Rattle.frame_words.specs.declared.commands.Done.TheVariants as done
use Rattle.frames.specs.declared.frame.Mode.TheVariants as mode
use Rattle.frames.specs.declared.next.Next.{Next}

abbrev pub done_out : {H : Type 0} → Done → Meaning H
done_out (done.Ends code) path st = Ends code st
done_out (done.Asks call) path st = ask call path st

abbrev pub next_after : Done → Next
next_after (done.Ends code) = stop code
next_after (done.Asks call) = record { frame = None; mode = mode.Asked call }

-- what the host answered, with what it did
pub record Answers {H : Type 0} (step : HostStep H) (after : H) (d : Done)
    (made : List Effect → Type 0) : Type 0 where
  pub acts : List Act
  pub same : (path : List ℕ) (vars : Scopes) (host : H) (more : List Reply) (budget cost : ℕ)
      (before : List Act)
      → answered step path (state vars host more budget cost before)
      ≡ done_out d path (state vars after more budget cost (before ++ acts))
  pub by : made (effects_in acts)
  pub once : IsCall step after acts

-- what a command came to, with what was done; where its value isn't wanted, any may stand for it
pub record Finished {H : Type 0} (g : Setting H) (wanted : Bool) (v : Verb)
    (words : List (List ℕ)) (vars vars' : Scopes) (host host' : H) (d : Done)
    (made : List Effect → Type 0) : Type 0 where
  pub acts : List Act
  pub same : (i : Inner H) (path : List ℕ) (more : List Reply) (budget cost : ℕ)
      (before : List Act)
      → heard wanted (command g i v words path (state vars host more budget cost before))
      ≡ heard wanted (done_out d path (state vars' host' more budget cost (before ++ acts)))
  pub by : made (effects_in acts)
  pub called : Option (List (List ℕ))
  pub once : CalledBy g host host' called acts
