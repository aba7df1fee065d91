use Rattle.std.proofs.Common.{◌≡◌, ◌≤◌, ◌+◌, ◌*◌, ◌-◌, length}
use Rattle.tcl_words.specs.Reading.{level}
use Rattle.tcl_words.proofs.Turns.{PartsTo, WordsTo, CommandsTo}
use Rattle.tcl_words.proofs.progress.Progress.+script.Given as goal

-- the readers of one depth call one another in this order, and one that opens a construct goes on
-- with one opener less

abbrev pub decreases-bracket : goal.decreases-bracket
decreases-bracket l = 8 * l.depth

abbrev pub decreases-quoted : goal.decreases-quoted
decreases-quoted l = 8 * l.depth

abbrev pub decreases-index : goal.decreases-index
decreases-index l = 8 * l.depth

abbrev pub decreases-variable : goal.decreases-variable
decreases-variable l = 8 * l.depth + 1

abbrev pub decreases-part : goal.decreases-part
decreases-part l = 8 * l.depth + 2

abbrev pub decreases-parts : goal.decreases-parts
decreases-parts l = 8 * l.depth + 3

abbrev pub decreases-trailing : goal.decreases-trailing
decreases-trailing l = 8 * l.depth + 4

abbrev pub decreases-word : goal.decreases-word
decreases-word l = 8 * l.depth + 5

abbrev pub decreases-words : goal.decreases-words
decreases-words l = 8 * l.depth + 6

abbrev pub decreases-script : goal.decreases-script
decreases-script l = 8 * l.depth + 7

abbrev pub invariant-parts-loop-alloc : goal.invariant-parts-loop-alloc
invariant-parts-loop-alloc l = record {
  so_far : PartsTo (level l.depth) l.closer l.text l.fn.self l.parts.items l.self;
  within : l.self.at ≤ length l.text;
  onward : l.fn.self.at ≤ l.self.at;
  moves : l.self.at ≡ l.fn.self.at → l.self ≡ l.fn.self;
}

abbrev pub decreases-parts-loop-alloc : goal.decreases-parts-loop-alloc
decreases-parts-loop-alloc l = length l.text - l.self.at

abbrev pub invariant-words-loop-alloc : goal.invariant-words-loop-alloc
invariant-words-loop-alloc l = record {
  so_far : WordsTo (level l.depth) l.inside l.text l.fn.self l.words.items l.self;
  within : l.self.at ≤ length l.text;
  onward : l.fn.self.at ≤ l.self.at;
  moves : l.self.at ≡ l.fn.self.at → l.self ≡ l.fn.self;
}

abbrev pub decreases-words-loop-alloc : goal.decreases-words-loop-alloc
decreases-words-loop-alloc l = length l.text - l.self.at

abbrev pub invariant-script-loop-alloc : goal.invariant-script-loop-alloc
invariant-script-loop-alloc l = record {
  so_far : CommandsTo (level l.depth) l.inside l.text l.fn.self l.commands.items l.self;
  within : l.self.at ≤ length l.text;
  onward : l.fn.self.at ≤ l.self.at;
}

abbrev pub decreases-script-loop-alloc : goal.decreases-script-loop-alloc
decreases-script-loop-alloc l = length l.text - l.self.at
