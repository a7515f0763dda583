use Rattle.commit_desk_tests.proofs.Scans.{left, popped}
use Rattle.commit_desk_tests.proofs.setting.Setting.next_entry.Goals as goal

pub invariant_of-finding : goal.invariant_of-finding
invariant_of-finding g c =
    let at = c.looking.inside in
    let is = c.looking.invariant.all in
    record {
      finding = is.finding;
      of_token = is.others c.in-Some.entry (popped at.layouts.entries.items c.pop.new.self.items c.pop.result c.in-Some.entry c.pop.ensures.items c.in-Some.is);
      others = λ other has. is.others other (left at.layouts.entries.items c.pop.new.self.items c.pop.result other c.pop.ensures.items has);
    }
