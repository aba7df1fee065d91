use Rattle.config.proofs.MisplacedWords.{one_word}
use Rattle.config.proofs.event_words.misplaced_word.Goals as goal

pub returns-in-len1 : goal.returns-in-len1
returns-in-len1 c = one_word c.args.http c.args.words.now c.in-len1.len_below
