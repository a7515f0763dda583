use Rattle.std.proofs.Common.{ℕ, List, ◌∙◌, refl, subst}
use Rattle.funnel_io.specs.Calls.{GaveBytes}
use Rattle.funnel_io.proofs.CallLaws.{gave_bytes-append}
use Rattle.http_front.specs.Entries.{HasNoEntry}
use Rattle.http_front.specs.Steps.{IsUndecided}
use Rattle.http_front.specs.TurnSteps.{FindsEndAs}
use Rattle.http_front.proofs.ReadLaws.{handed_on, read_more, read_none, stops_undecided}
use Rattle.http_front.proofs.TurnLaws.{found-append, reads_none, reads_on}
use Rattle.http_front.proofs.serving.Server.next_frame.Goals as goal

pub loop-frame-init : goal.loop-frame-init
loop-frame-init g c = record {
  ready = c.requires;
  stays = record { references = refl; other_half = refl };
  reads = record {
    read = read_none (g.C.Source.incoming c.args.conn.now) c.args.self.now.buffer.bytes c.args.self.now.left;
    calls = reads_none g.C.Source.read_gives HasNoEntry c.args.conn.now c.args.self.now.buffer.bytes c.args.self.now.left;
    faults = refl;
  };
}

pub loop-frame-preserved : goal.loop-frame-preserved
loop-frame-preserved g c = record {
  ready = c.in_ok-read_until-in-More.ensures.ready;
  stays = record {
    references = c.in_ok-read_until-in-More.ensures.stays.references ∙ c.loop-frame.invariant.stays.references;
    other_half = c.in_ok-read_until-in-More.ensures.stays.other_half ∙ c.loop-frame.invariant.stays.other_half;
  };
  reads = record {
    read = read_more (g.C.Source.incoming c.args.conn.now) (g.C.Source.incoming c.loop-frame.conn) (g.C.Source.incoming c.read_until.new.conn)
        c.args.self.now.buffer.bytes c.loop-frame.self.buffer.bytes c.read_until.new.self.buffer.bytes
        c.args.self.now.left c.loop-frame.self.left c.read_until.new.self.left c.loop-frame.invariant.reads.read c.in_ok-read_until-in-More.ensures.reads.read;
    calls = reads_on g.C.Source.read_gives GaveBytes (λ reads earlier before gave. gave_bytes-append reads earlier gave before) c.args.conn.now c.loop-frame.conn c.read_until.new.conn
        c.args.self.now.buffer.bytes c.loop-frame.self.buffer.bytes c.read_until.new.self.buffer.bytes
        c.args.self.now.left c.loop-frame.self.left c.read_until.new.self.left c.in-More.least
        (subst (λ (bs : List ℕ). IsUndecided bs c.in-More.least) c.bytes.ensures.bytes c.in-More.ensures) c.loop-frame.invariant.reads.calls
        c.in_ok-read_until-in-More.ensures.reads.calls;
    faults = c.in_ok-read_until-in-More.ensures.reads.faults ∙ c.loop-frame.invariant.reads.faults;
  };
}

pub returns-in_err-read_until-in-More-clause-ends : goal.returns-in_err-read_until-in-More-clause-ends
returns-in_err-read_until-in-More-clause-ends g c =
    let end = c.in_err-read_until-in-More.field-0.0 in
    let ends = c.in_err-read_until-in-More.ensures.ends in
    let undecided = subst (λ (bs : List ℕ). IsUndecided bs c.in-More.least) c.bytes.ensures.bytes c.in-More.ensures in
    handed_on _ c.from_residual.result end c.from_residual.ensures.1
    (record {
      stops = stops_undecided (g.C.Source.incoming c.args.conn.now) (g.C.Source.incoming c.loop-frame.conn) (g.C.Source.incoming c.read_until.new.conn)
          c.args.self.now.buffer.bytes c.loop-frame.self.buffer.bytes c.read_until.new.self.buffer.bytes
          c.args.self.now.left c.loop-frame.self.left c.read_until.new.self.left c.in-More.least c.args.limit end
          c.loop-frame.invariant.reads.read c.loop-frame.invariant.reads.faults undecided ends.stops;
      calls = reads_on g.C.Source.read_gives (FindsEndAs end) (λ reads earlier gave found done. found-append reads earlier (found done))
          c.args.conn.now c.loop-frame.conn c.read_until.new.conn
          c.args.self.now.buffer.bytes c.loop-frame.self.buffer.bytes c.read_until.new.self.buffer.bytes
          c.args.self.now.left c.loop-frame.self.left c.read_until.new.self.left c.in-More.least undecided c.loop-frame.invariant.reads.calls ends.calls;
    })
