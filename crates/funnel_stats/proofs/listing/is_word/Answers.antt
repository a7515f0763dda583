-- The set of the text's words decides.
use Rattle.funnel_stats.proofs.WordTests.{is_word-by}
use Rattle.funnel_stats.proofs.listing.is_word.Goals as goal

pub returns : goal.returns
returns c = is_word-by c.args.text.now c.in-Ok.found c.is_alone.result c.is_alone.ensures.rising c.in-Ok.ensures c.is_alone.ensures.alone
