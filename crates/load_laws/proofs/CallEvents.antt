-- By which event a call is answered where there is no cause to refuse it.
use Rattle.std.proofs.Common.{◌≡◌, ℕ, ⊎_elim, Bool, true, false, cond, List, Some, None, sym, ap, ◌∙◌}
use Rattle.std.proofs.lemmas.Bool.{both_ways}
use Rattle.funnel_model.specs.declared.bit_list.Bit.{Bit}
use Rattle.funnel_model.specs.declared.call.Call.{Call}
use Rattle.funnel_model.specs.declared.call.Call.TheVariants as call
use Rattle.funnel_model.specs.declared.event.Event.{Event}
use Rattle.funnel_model.specs.declared.event.Event.TheVariants as event
use Rattle.funnel_model.specs.declared.reply.Reply.{Reply}
use Rattle.funnel_model.specs.declared.reply.Reply.TheVariants as reply
use Rattle.funnel_model.specs.Events.{call_of, pass_of}
use Rattle.funnel_model.specs.History.{answer, is_live}
use Rattle.funnel_model.specs.Legal.{Limits, IsAllowed, IsFull, IsIdle}
use Rattle.funnel_model.specs.Steps.{IsReply}

-- the call of a recycle is no other
not_recycle : (alone : Bool) (asked : Call) → (call.Recycle ≡ asked → ⊥) → cond alone (Some call.Recycle) None ≡ Some asked → ⊥
not_recycle true asked other is = other (let h : call.Recycle ≡ asked = cc in h)
not_recycle false asked other is = cc

-- a find is answered by its event
pub find_event : (limits : Limits) (history : List Event) (e : Event) (query : List ℕ) (given : Reply) → call_of e ≡ Some (call.Find query) →
    IsReply limits history e given → (pass : ℕ) × (e ≡ event.Find pass query) × (given ≡ reply.Found (answer history query))
find_event limits history (event.Find pass asked) query given is replied = (pass, cc, replied ∙ ap (λ q. reply.Found (answer history q)) (let h : asked ≡ query = cc in h))
find_event limits history (event.No pass (call.Find asked)) query given is replied = absurd replied
find_event limits history (event.No pass _) query given is replied = cc
find_event limits history (event.Read pass (call.Find asked)) query given is replied = absurd replied
find_event limits history (event.Read pass _) query given is replied = cc
find_event limits history (event.Opened pass slice alone) query given is replied =
    absurd (not_recycle alone (call.Find query) (λ same. let h : call.Recycle ≡ call.Find query = same in cc) is)
find_event limits history _ query given is replied = cc

-- a delete of a live number is answered by its event
pub delete_event : (limits : Limits) (history : List Event) (e : Event) (id : ℕ) → is_live id history ≡ true → IsAllowed limits history e → call_of e ≡ Some (call.Delete id) → (pass : ℕ) × (e ≡ event.Del pass id)
delete_event limits history (event.Del pass deleted) id present allowed is = (pass, cc)
delete_event limits history (event.No pass (call.Delete deleted)) id present allowed is =
    let same : deleted ≡ id = cc in
    absurd (both_ways (is_live id history) (ap (λ i. is_live i history) (sym same) ∙ allowed.rule.refused) present)
delete_event limits history (event.No pass _) id present allowed is = cc
delete_event limits history (event.Read pass (call.Delete deleted)) id present allowed is = absurd allowed.rule.reads
delete_event limits history (event.Read pass _) id present allowed is = cc
delete_event limits history (event.Opened pass slice alone) id present allowed is =
    absurd (not_recycle alone (call.Delete id) (λ same. let h : call.Recycle ≡ call.Delete id = same in cc) is)
delete_event limits history _ id present allowed is = cc

-- an add that isn't live is answered by its event, where the engine isn't full
pub add_event : (limits : Limits) (history : List Event) (e : Event) (id : ℕ) (text : List ℕ) → is_live id history ≡ false →
    (IsIdle (pass_of e) history → IsFull limits history → ⊥) → IsAllowed limits history e →
    call_of e ≡ Some (call.Add id text) →
    (pass : ℕ) × (slice : ℕ) × (column : ℕ) × (bits : List Bit) × (e ≡ event.Add pass id text slice column bits)
add_event limits history (event.Add pass added of slice column bits) id text absent no_room allowed is = (pass, slice, column, bits, cc)
add_event limits history (event.Drop pass dropped of slice column) id text absent no_room allowed is =
    let same : dropped ≡ id = cc in
    absurd (both_ways (is_live id history) absent (ap (λ i. is_live i history) (sym same) ∙ allowed.rule.present))
add_event limits history (event.No pass (call.Add refused of)) id text absent no_room allowed is =
    let same : refused ≡ id = cc in
    ⊎_elim
    (λ present. absurd (both_ways (is_live id history) absent (ap (λ i. is_live i history) (sym same) ∙ present)))
    (λ full. absurd (no_room allowed.rule.idle full))
    allowed.rule.refused
add_event limits history (event.No pass _) id text absent no_room allowed is = cc
add_event limits history (event.Read pass (call.Add added of)) id text absent no_room allowed is = absurd allowed.rule.reads
add_event limits history (event.Read pass _) id text absent no_room allowed is = cc
add_event limits history (event.Opened pass slice alone) id text absent no_room allowed is =
    absurd (not_recycle alone (call.Add id text) (λ same. let h : call.Recycle ≡ call.Add id text = same in cc) is)
add_event limits history _ id text absent no_room allowed is = cc
