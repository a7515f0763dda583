use Rattle.std.proofs.Common.{arith, map, sym}
use Rattle.std.proofs.lemmas.List.{length-map}
use Rattle.funnel.proofs.AskedTexts.{none_asked}
use Rattle.funnel.proofs.text.text_asked.Goals as goal

pub returns-in_default : goal.returns-in_default
returns-in_default c = sym (none_asked (map (λ word. word.now) c.args.words.now) (λ one. let same = length-map c.args.words.now (λ word. word.now) in grind arith))
