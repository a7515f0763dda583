use Rattle.std.proofs.Common.{ap, ◌∙◌}
use Rattle.std.specs.Option.{option_map_or}
use Rattle.funnel_model.specs.Treatment.{class_of_count}
use Rattle.funnel_model.specs.Sizes.{class_of_word}
use Rattle.treatment.proofs.classes.class_of.Goals as goal

pub returns-in-Some : goal.returns-in-Some
unfolding class_of_word
returns-in-Some c =
    c.class.ensures.value ∙ ap (λ o. option_map_or (λ f. class_of_count f c.args.config.now.documents) o 15) c.in-Some.ensures.value

pub returns-in-None : goal.returns-in-None
unfolding class_of_word
returns-in-None c = ap (λ o. option_map_or (λ f. class_of_count f c.args.config.now.documents) o 15) c.in-None.ensures.value
