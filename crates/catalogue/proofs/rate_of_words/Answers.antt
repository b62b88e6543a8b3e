-- `catalogue::rate_of_words` meets its contract: what is worked out is the rate.
use Rattle.catalogue.specs.RatingLaws.{rate_given}
use Rattle.catalogue.proofs.rate_of_words.Goals as goal

pub returns : goal.returns
returns c = rate_given _ _ _ c.in_ok-check_rate.ensures c.message_length-s.ensures
