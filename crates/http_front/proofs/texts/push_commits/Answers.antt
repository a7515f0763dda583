use Rattle.std.proofs.Common.{codes}
use Rattle.std.proofs.lemmas.Result.{on_ok_weaker}
use Rattle.line_proto.proofs.Replies.{on_ok-appended}
use Rattle.http_front.specs.Responses.{joined_commits}
use Rattle.http_front.proofs.ResponseLaws.{appended}
use Rattle.http_front.proofs.texts.push_commits.Goals as goal

pub returns-clause-ok : goal.returns-clause-ok
returns-clause-ok c =
    on_ok_weaker c.extend_from_slice-2.result
    (λ last. appended c.args.out.now.items (codes "{\"commits\":[") (joined_commits c.args.commits.now) (codes "]}") _ _ _ c.in_ok-extend_from_slice.ensures.items c.in_ok-push_joined_commits.ensures.ok last)
    (on_ok-appended c.extend_from_slice-2.result c.extend_from_slice-2.new.self.items c.push_joined_commits.new.out.items (codes "]}") c.extend_from_slice-2.ensures.items)
