use Rattle.std.proofs.Common.{◌∙◌, ap, codes}
use Rattle.std.specs.Str.{str_eq_ignore_ascii_case}
use Rattle.http_front.specs.Heads.{is_close}
use Rattle.http_front.proofs.OptionLaws.{tells_same}
use Rattle.http_front.proofs.closing.is_close.Goals as goal

pub returns : goal.returns
unfolding is_close
returns c =
    tells_same c.eq_ignore_ascii_case.result c.trim.result.now (codes "close") c.eq_ignore_ascii_case.ensures.test
    ∙ ap (λ o. str_eq_ignore_ascii_case o (codes "close")) c.trim.ensures
