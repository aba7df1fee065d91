use Rattle.std.proofs.Common.{◌≡◌, drop}
use Rattle.test_words.specs.Words as specs
use Rattle.test_words.proofs.words.read_all.Given as goal

abbrev pub invariant-loop-word : goal.invariant-loop-word
invariant-loop-word l =
    specs.read_all (drop l.word-index l.fn.words) l.read ≡ specs.read_all l.fn.words specs.no_words
