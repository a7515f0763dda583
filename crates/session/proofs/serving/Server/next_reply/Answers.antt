use Rattle.std.proofs.Common.{◌≡◌, ◌<◌, ℕ, List, length, refl, ap}
use Rattle.std.proofs.lemmas.Bool.{lt-ltb}
use Rattle.line_proto.specs.Forms.{TooLong, form_of, item_from, item_of}
use Rattle.std.specs.Prelude.{if◌then◌else◌}
use Rattle.funnel_io.specs.Calls.{bytes_read}
use Rattle.session.proofs.serving.Server.next_reply.Goals as goal

-- a line that is too long is no other item
too_long : (line : List ℕ) → 65536 < length line → item_of line ≡ TooLong
too_long line long = ap (λ b. if b then TooLong else item_from (form_of line)) (lt-ltb 65536 (length line) long)

pub returns-in-Whole-clause-answers : goal.returns-in-Whole-clause-answers
returns-in-Whole-clause-answers g c = record {
  bytes = bytes_read c.in-Whole.ensures.next.reads;
  takes = c.in-Whole.ensures.next.takes;
  count = c.in-Whole.ensures.next.count;
  faults = c.in-Whole.ensures.faults;
  knows_end = c.in-Whole.ensures.at_end;
  next = λ taken so_far has_given. (
    c.next_line.new.self.line,
    c.in-Whole.ensures.next.gives taken so_far has_given,
    rw c.line.ensures at c.reply_to.ensures.answers,
  );
}

pub returns-in-Long-clause-answers : goal.returns-in-Long-clause-answers
returns-in-Long-clause-answers g c = record {
  bytes = bytes_read c.in-Long.ensures.next.reads;
  takes = c.in-Long.ensures.next.takes;
  count = c.in-Long.ensures.next.count;
  faults = c.in-Long.ensures.faults;
  knows_end = c.in-Long.ensures.at_end;
  next = λ taken so_far has_given.
      let gives = c.in-Long.ensures.next.gives taken so_far has_given in (
        gives.0,
        gives.2,
        rw (too_long gives.0 gives.1) (refl, refl),
      );
}

pub returns-in-Failed-clause-ends : goal.returns-in-Failed-clause-ends
returns-in-Failed-clause-ends g c = record {
  bytes = bytes_read c.in-Failed.ensures.next.reads;
  takes = c.in-Failed.ensures.next.takes;
  count = c.in-Failed.ensures.next.count;
  faults = c.in-Failed.ensures.faults;
  same = refl;
  knows_end = c.in-Failed.ensures.at_end;
  ends = λ taken given has_given. ((c.in-Failed.ensures.next.gives taken given has_given).0, c.in-Failed.ensures.limits.below_limit refl);
}

pub returns-in-Limit-clause-ends : goal.returns-in-Limit-clause-ends
returns-in-Limit-clause-ends g c = record {
  bytes = bytes_read c.in-Limit.ensures.next.reads;
  takes = c.in-Limit.ensures.next.takes;
  count = c.in-Limit.ensures.next.count;
  faults = c.in-Limit.ensures.faults;
  same = refl;
  knows_end = c.in-Limit.ensures.at_end;
  ends = λ taken given has_given. ((c.in-Limit.ensures.next.gives taken given has_given).0, c.in-Limit.ensures.limits.at_limit refl, refl);
}

pub returns-in-Finished-clause-ends : goal.returns-in-Finished-clause-ends
returns-in-Finished-clause-ends g c = record {
  bytes = bytes_read c.in-Finished.ensures.next.reads;
  takes = c.in-Finished.ensures.next.takes;
  count = c.in-Finished.ensures.next.count;
  faults = c.in-Finished.ensures.faults;
  same = refl;
  knows_end = c.in-Finished.ensures.at_end;
  ends = λ taken given has_given. let gives = c.in-Finished.ensures.next.gives taken given has_given in (gives.0, gives.1);
}

pub returns-in-Whole-clause-reads : goal.returns-in-Whole-clause-reads
returns-in-Whole-clause-reads g c = record {
  reads = c.in-Whole.ensures.next.reads;
  lead = c.in-Whole.ensures.next.lead;
  needed = c.in-Whole.ensures.next.needed;
  count = c.in-Whole.ensures.next.count;
  ended = c.in-Whole.ensures.next.ended;
  failed = λ more. c.in-Whole.ensures.next.failed;
  next = λ taken given has_given. (c.next_line.new.self.line, c.in-Whole.ensures.next.gives taken given has_given);
}

pub returns-in-Long-clause-reads : goal.returns-in-Long-clause-reads
returns-in-Long-clause-reads g c = record {
  reads = c.in-Long.ensures.next.reads;
  lead = c.in-Long.ensures.next.lead;
  needed = c.in-Long.ensures.next.needed;
  count = c.in-Long.ensures.next.count;
  ended = c.in-Long.ensures.next.ended;
  failed = λ more. c.in-Long.ensures.next.failed;
  next = λ taken given has_given. let gives = c.in-Long.ensures.next.gives taken given has_given in (gives.0, gives.2);
}

pub returns-in-Finished-clause-reads : goal.returns-in-Finished-clause-reads
returns-in-Finished-clause-reads g c = record {
  reads = c.in-Finished.ensures.next.reads;
  lead = c.in-Finished.ensures.next.lead;
  needed = c.in-Finished.ensures.next.needed;
  count = c.in-Finished.ensures.next.count;
  ended = c.in-Finished.ensures.next.ended;
  failed = λ more. cc;
  next = λ taken given has_given. tt;
}

pub returns-in-Failed-clause-reads : goal.returns-in-Failed-clause-reads
returns-in-Failed-clause-reads g c = record {
  reads = c.in-Failed.ensures.next.reads;
  lead = c.in-Failed.ensures.next.lead;
  needed = c.in-Failed.ensures.next.needed;
  count = c.in-Failed.ensures.next.count;
  ended = c.in-Failed.ensures.next.ended;
  failed = λ more. cc;
  next = λ taken given has_given. tt;
}

pub returns-in-Limit-clause-reads : goal.returns-in-Limit-clause-reads
returns-in-Limit-clause-reads g c = record {
  reads = c.in-Limit.ensures.next.reads;
  lead = c.in-Limit.ensures.next.lead;
  needed = c.in-Limit.ensures.next.needed;
  count = c.in-Limit.ensures.next.count;
  ended = c.in-Limit.ensures.next.ended;
  failed = λ more. cc;
  next = λ taken given has_given. tt;
}
