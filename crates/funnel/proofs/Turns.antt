-- Calls on a connection that is made of two streams, as those on its streams.
use Rattle.std.proofs.Common.{◌≡◌, ℕ, List, [], ◌∷◌, refl, sym, ap, ◌∙◌, subst}
use Rattle.funnel_io.specs.Calls.{Leads, Read, Write}
use Rattle.funnel_io.specs.declared.end.End.{End}
use Rattle.funnel_io.specs.declared.end.End.TheVariants as end_of
use Rattle.session.proofs.Turns.{stops_at_once}
use Rattle.session.specs.Turns.{GoesBy, GoesInTurns, Protocol, StopsReading, Turn, line_by_line}
use Rattle.session.specs.declared.serving.TheConstants.{MOST_BYTES}
use Rattle.funnel_stats.specs.declared.fault.ConfigFault.{ConfigFault}
use Rattle.funnel_stats.specs.declared.fault.ConfigFault.TheVariants as config
use Rattle.funnel.specs.Ends.{why_of_config, why_of_end}
use Rattle.funnel.specs.Turns.{RunsInTurns, reads_input, writes_output}
use Rattle.funnel.specs.declared.ends.Why.{Why}
use Rattle.funnel.specs.declared.ends.Why.TheVariants as why_of

-- calls that lead on, where each state is seen as another
leads_as : {S T C : Type 0} (gives : S → C → S → Type 0) (gives_as : T → C → T → Type 0) (seen : S → T) →
    ((x : S) (call : C) (y : S) → gives x call y → gives_as (seen x) call (seen y)) → (before after : S) (calls : List C) →
    Leads gives before calls after → Leads gives_as (seen before) calls (seen after)
leads_as gives gives_as seen step before after [] is = ap seen is
leads_as gives gives_as seen step before after (call ∷ earlier) lead =
    (seen lead.0, leads_as gives gives_as seen step before lead.0 earlier lead.1, step lead.0 call after lead.2)

module _ {S T A : Type 0} (protocol : Protocol A) (read_gives : S → Read → S → Type 0) (write_gives : S → Write → S → Type 0)
    (read_as : T → Read → T → Type 0) (write_as : T → Write → T → Type 0) (seen : S → T)
    (reads : (x : S) (read : Read) (y : S) → read_gives x read y → read_as (seen x) read (seen y))
    (writes : (x : S) (write : Write) (y : S) → write_gives x write y → write_as (seen x) write (seen y)) where
  turn_as : (before : S) (turn : Turn A) (after : S) → GoesBy read_gives write_gives before turn after → GoesBy read_as write_as (seen before) turn (seen after)
  turn_as before turn after goes = record {
    middle = seen goes.middle;
    reads = leads_as read_gives read_as seen reads before goes.middle turn.reads goes.reads;
    writes = leads_as write_gives write_as seen writes goes.middle after turn.writes goes.writes;
  }

  -- so they go in turns there too
  turns_as : (before after : S) → GoesInTurns protocol read_gives write_gives before after → GoesInTurns protocol read_as write_as (seen before) (seen after)
  turns_as before after goes = record {
    turns = goes.turns;
    middle = seen goes.middle;
    turn_by_turn = leads_as (GoesBy read_gives write_gives) (GoesBy read_as write_as) seen turn_as before goes.middle goes.turns goes.turn_by_turn;
    are = goes.are;
    last = goes.last;
    last_lead = leads_as read_gives read_as seen reads goes.middle after goes.last goes.last_lead;
    last_are = goes.last_are;
  }

  -- and stop reading there
  pub stops_as : (limit : ℕ) (done : Type 0) (before after : S) → StopsReading protocol read_gives write_gives limit done before after →
      StopsReading protocol read_as write_as limit done (seen before) (seen after)
  unfolding turns_as
  stops_as limit done before after stops = record { goes = turns_as before after stops.goes; below = stops.below; at_end = stops.at_end }

-- by the states at which the two streams are known to end
pub stops_to : {S K A : Type 0} (protocol : Protocol A) (read_gives : S × K → Read → S × K → Type 0) (write_gives : S × K → Write → S × K → Type 0) (limit : ℕ) (done : Type 0)
    (before : S × K) (input later_input : S) (output later_output : K) → input ≡ later_input → output ≡ later_output →
    StopsReading protocol read_gives write_gives limit done before (input, output) → StopsReading protocol read_gives write_gives limit done before (later_input, later_output)
stops_to {S} {K} protocol read_gives write_gives limit done before input later_input output later_output input_is output_is stops =
    subst (λ (k : K). StopsReading protocol read_gives write_gives limit done before (later_input, k)) output_is
    (subst (λ (s : S). StopsReading protocol read_gives write_gives limit done before (s, output)) input_is stops)

-- where a run is done, so is its session
done_by : (end : End) (why : Why) → why ≡ why_of_end end → why ≡ why_of.Done → end ≡ end_of.Done
done_by end_of.Done why ends done = refl
done_by end_of.ReadFault why ends done = cc
done_by end_of.WriteFault why ends done = cc
done_by (end_of.ByteLimit told) why ends done = cc
done_by end_of.Memory why ends done = cc

pub runs_by : {S K : Type 0} (read_gives : S → Read → S → Type 0) (write_gives : K → Write → K → Type 0) (before after : S × K) (end : End) (why : Why) →
    why ≡ why_of_end end → RunsInTurns read_gives write_gives (end ≡ end_of.Done) before after → RunsInTurns read_gives write_gives (why ≡ why_of.Done) before after
runs_by read_gives write_gives before after end why ends runs = record { goes = runs.goes; below = runs.below; at_end = λ done. runs.at_end (done_by end why ends done) }

-- where nothing is done, as the end tells, nothing is out of turn
pub runs_nowhere : {S K : Type 0} (read_gives : S → Read → S → Type 0) (write_gives : K → Write → K → Type 0) (now : S × K) (why other : Why) →
    why ≡ other → (other ≡ why_of.Done → ⊥) → RunsInTurns read_gives write_gives (why ≡ why_of.Done) now now
runs_nowhere read_gives write_gives now why other is never =
    stops_at_once line_by_line (reads_input read_gives) (writes_output write_gives) MOST_BYTES (why ≡ why_of.Done) now (λ done. never (sym is ∙ done))

-- a configuration that is refused is another end
pub refused_not_done : (fault : ConfigFault) → why_of_config fault ≡ why_of.Done → ⊥
refused_not_done config.ReadFault is = cc
refused_not_done config.Memory is = cc
refused_not_done fault is = cc
