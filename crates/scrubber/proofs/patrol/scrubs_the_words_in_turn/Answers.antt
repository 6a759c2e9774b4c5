use Rattle.scrubber.proofs.Turns.{in_turn}
use Rattle.scrubber.proofs.patrol.scrubs_the_words_in_turn.Goals as goal

pub returns : goal.returns
returns c = λ p n within some. (in_turn p n within some).next
