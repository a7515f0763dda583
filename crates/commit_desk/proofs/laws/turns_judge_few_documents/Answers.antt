use Rattle.commit_desk.proofs.FewJudged.{few_judged}
use Rattle.commit_desk.proofs.laws.turns_judge_few_documents.Goals as goal

pub returns : goal.returns
returns c = few_judged
