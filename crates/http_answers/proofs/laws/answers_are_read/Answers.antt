use Rattle.http_answers.proofs.Answering.{is_answer}
use Rattle.http_answers.proofs.laws.answers_are_read.Goals as goal

pub returns : goal.returns
returns c = λ request a text made is. is_answer request a made text is
