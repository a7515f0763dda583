use Rattle.std.proofs.Common.{◌∙◌, ap, sym, subst, List, ℕ, Some}
use Rattle.std.specs.Str.{IsUtf8}
use Rattle.http_front.specs.Routes.{told_seen}
use Rattle.http_front.proofs.AnswerLaws.{asks_find, asks_no_find, no_find}
use Rattle.http_front.proofs.answering.find.Goals as goal

pub returns-then-not-decode-clause-answers : goal.returns-then-not-decode-clause-answers
returns-then-not-decode-clause-answers g c = λ body.
    no_find (g.S.Service.caller c.args.service.now) (g.S.Service.front c.args.service.now) (told_seen c.args.told) c.args.value.now body (rw c.as_bytes.ensures.value at c.if-not-decode.ensures.decoded)

pub returns-in-Ok-clause-answers : goal.returns-in-Ok-clause-answers
returns-in-Ok-clause-answers g c = λ body.
    let text = c.in-Ok.ensures.cases.0 ∙ c.deref.ensures.value in
    asks_find (g.S.Service.caller c.args.service.now) (g.S.Service.front c.args.service.now) (g.S.Service.front c.find_words.new.service) (told_seen c.args.told) c.args.value.now
    c.in-Ok.words.now body c.find_words.result ((rw c.as_bytes.ensures.value at c.if-not-decode.ensures.decoded) ∙ ap (λ (bs : List ℕ). Some bs) (sym text))
    (subst IsUtf8 (sym c.in-Ok.ensures.cases.0) c.in-Ok.ensures.cases.1) c.find_words.ensures.answers

pub returns-in-Err-clause-answers : goal.returns-in-Err-clause-answers
returns-in-Err-clause-answers g c = λ body.
    asks_no_find (g.S.Service.caller c.args.service.now) (g.S.Service.front c.args.service.now) (told_seen c.args.told) c.args.value.now c.deref.result.now body
    ((rw c.as_bytes.ensures.value at c.if-not-decode.ensures.decoded) ∙ ap (λ (bs : List ℕ). Some bs) (sym c.deref.ensures.value)) c.in-Err.ensures.cases.0
