-- How long a response is that is no list, and the numbers of an engine in it.
use Rattle.std.proofs.Common.{◌≡◌, ℕ, ◌+◌, ◌^◌, ◌<◌, ◌≤◌, Bool, true, false, List, ◌++◌, refl, ap, ◌∙◌, append_assoc, length, decimal, arith, length-append, Result, Ok, Err, OnErr, IsOk, codes}
use Rattle.std.proofs.lemmas.Fmt.{length-decimal-le}
use Rattle.funnel_model.specs.declared.reply.Reply.{Reply}
use Rattle.funnel_model.specs.declared.reply.Reply.TheVariants as reply
use Rattle.funnel_model.specs.declared.stats.Stats.{Stats}
use Rattle.http_front.specs.declared.outcome.Shape.TheVariants as shape
use Rattle.http_front.specs.Responses.{body_in_shape, body_of_reply, column_metrics, columns_text, commit_metrics, commits_text, documents_text, end_of_head, finds_text, free_text, kept_members, kind_of_reply, metric, metrics_body, numbered, response, retired_text, room_members, running_metrics, start_of_head, stats_body, trimmed_text}

start_short : (status kind : List ℕ) → length status ≤ 24 → length kind ≤ 25 → length (start_of_head status kind) ≤ 96
start_short status kind short few = omega (arith, short, few, length-append {A = ℕ})

end_short : (closing : Bool) → length (end_of_head closing) ≤ 32
end_short true = omega arith
end_short false = omega arith

all_short : (start digits end body : List ℕ) → length start ≤ 96 → length digits ≤ 20 → length end ≤ 32 → length body ≤ 1024 → length (start ++ (digits ++ (end ++ body))) ≤ 2048
all_short start digits end body s d e b = omega (arith, s, d, e, b, length-append {A = ℕ})

pub response_short : (closing : Bool) (status kind body : List ℕ) → length status ≤ 24 → length kind ≤ 25 → length body ≤ 1024 → length (response closing status kind body) ≤ 2048
response_short closing status kind body short plain few =
    all_short (start_of_head status kind) (decimal (length body)) (end_of_head closing) body (start_short status kind short plain)
    (length-decimal-le 20 (length body) (omega arith) (omega (arith, few)) (omega (arith, few))) (end_short closing) few

-- a call that fails only for want of room succeeds where there is room
pub ok_with_room : {X E : Type 0} (r : Result X E) (room len need : ℕ) → OnErr r (room < len + need) → len ≡ 0 → need ≤ 2048 → 2048 ≤ room → IsOk r
ok_with_room (Ok x) room len need full none few fits = refl
ok_with_room (Err e) room len need full none few fits = absurd (omega (arith, full, none, few, fits))

-- and so it does where what it needs fits
pub ok_where_it_fits : {X E : Type 0} (r : Result X E) (room len need : ℕ) → OnErr r (room < len + need) → len ≡ 0 → need ≤ room → IsOk r
ok_where_it_fits (Ok x) room len need full none fits = refl
ok_where_it_fits (Err e) room len need full none fits = absurd (omega (arith, full, none, fits))

-- three texts behind another, one after another
pub appended : (o a b d o1 o2 o3 : List ℕ) → o1 ≡ o ++ a → o2 ≡ o1 ++ b → o3 ≡ o2 ++ d → o3 ≡ o ++ (a ++ (b ++ d))
appended o a b d o1 o2 o3 first second third =
    third ∙ ap (λ (l : List ℕ). l ++ d) (second ∙ ap (λ (l : List ℕ). l ++ b) first) ∙ append_assoc (o ++ a) b d ∙ append_assoc o a (b ++ d)

-- and four
pub four_appended : (o a b d e o1 o2 o3 o4 : List ℕ) → o1 ≡ o ++ a → o2 ≡ o1 ++ b → o3 ≡ o2 ++ d → o4 ≡ o3 ++ e → o4 ≡ o ++ (a ++ (b ++ (d ++ e)))
four_appended o a b d e o1 o2 o3 o4 first second third fourth =
    appended o a b (d ++ e) o1 o2 o4 first second (fourth ∙ ap (λ (l : List ℕ). l ++ e) third ∙ append_assoc o2 d e)

-- a number that a response tells has at most 20 digits
digits : (n : ℕ) → n < 2 ^ 64 → length (decimal n) ≤ 20
digits n small = length-decimal-le 20 n (omega arith) (omega (arith, small)) (omega (arith, small))

-- two texts, the lengths of which are bounded
both_short : (xs ys : List ℕ) (x y most : ℕ) → length xs ≤ x → length ys ≤ y → x + y ≤ most → length (xs ++ ys) ≤ most
both_short xs ys x y most first second all = omega (arith, first, second, all, length-append xs ys)

-- a number behind a text, and on a line
numbered_short : (text : List ℕ) (n most : ℕ) → n < 2 ^ 64 → length text + 20 ≤ most → length (numbered text n) ≤ most
numbered_short text n most small room = both_short text (decimal n) (length text) 20 most (omega arith) (digits n small) room

line_short : (number : List ℕ) → length number ≤ 20 → length (number ++ codes "\n") ≤ 21
line_short number few = omega (arith, few, length-append {A = ℕ})

metric_short : (text : List ℕ) (n most : ℕ) → n < 2 ^ 64 → length text + 21 ≤ most → length (metric text n) ≤ most
metric_short text n most small room = both_short text (decimal n ++ codes "\n") (length text) 21 most (omega arith) (line_short (decimal n) (digits n small)) room

pub kept_short : (documents place base : ℕ) → documents < 2 ^ 64 → place < 2 ^ 64 → base < 2 ^ 64 → length (kept_members documents place base) ≤ 96
kept_short documents place base d p b =
    let first = numbered (codes "{\"documents\":") documents in
    let second = numbered (codes ",\"place\":") place in
    let third = numbered (codes ",\"base\":") base in
    both_short first (second ++ third) 36 60 96 (numbered_short (codes "{\"documents\":") documents 36 d (omega arith))
    (both_short second third 30 30 60 (numbered_short (codes ",\"place\":") place 30 p (omega arith)) (numbered_short (codes ",\"base\":") base 30 b (omega arith)) (omega arith)) (omega arith)

pub room_short : (columns free retired finds : ℕ) → columns < 2 ^ 64 → free < 2 ^ 64 → retired < 2 ^ 64 → finds < 2 ^ 64
    → length (room_members columns free retired finds) ≤ 140
room_short columns free retired finds c f r n =
    let first = numbered (codes ",\"columns\":") columns in
    let second = numbered (codes ",\"free\":") free in
    let third = numbered (codes ",\"retired\":") retired in
    let last = numbered (codes ",\"finds\":") finds in
    both_short first (second ++ (third ++ last)) 35 105 140 (numbered_short (codes ",\"columns\":") columns 35 c (omega arith))
    (both_short second (third ++ last) 35 70 105 (numbered_short (codes ",\"free\":") free 35 f (omega arith))
    (both_short third last 35 35 70 (numbered_short (codes ",\"retired\":") retired 35 r (omega arith)) (numbered_short (codes ",\"finds\":") finds 35 n (omega arith)) (omega arith)) (omega arith)) (omega arith)

pub commits_short : (documents place base : ℕ) → documents < 2 ^ 64 → place < 2 ^ 64 → base < 2 ^ 64 → length (commit_metrics documents place base) ≤ 420
commits_short documents place base d p b =
    both_short (metric documents_text documents) (metric commits_text place ++ metric trimmed_text base) 120 300 420 (metric_short documents_text documents 120 d (omega arith))
    (both_short (metric commits_text place) (metric trimmed_text base) 125 175 300 (metric_short commits_text place 125 p (omega arith)) (metric_short trimmed_text base 175 b (omega arith)) (omega arith))
    (omega arith)

pub columns_short : (columns free : ℕ) → columns < 2 ^ 64 → free < 2 ^ 64 → length (column_metrics columns free) ≤ 260
columns_short columns free c f =
    both_short (metric columns_text columns) (metric free_text free) 130 130 260 (metric_short columns_text columns 130 c (omega arith)) (metric_short free_text free 130 f (omega arith)) (omega arith)

pub running_short : (retired finds : ℕ) → retired < 2 ^ 64 → finds < 2 ^ 64 → length (running_metrics retired finds) ≤ 280
running_short retired finds r n =
    both_short (metric retired_text retired) (metric finds_text finds) 140 140 280 (metric_short retired_text retired 140 r (omega arith)) (metric_short finds_text finds 140 n (omega arith)) (omega arith)

-- each of the engine's numbers fits a word
abbrev pub FitWords : Stats → Type 0
FitWords s =
    (s.documents < 2 ^ 64) × (s.place < 2 ^ 64) × (s.base < 2 ^ 64) × (s.columns < 2 ^ 64) × (s.free < 2 ^ 64) × (s.retired < 2 ^ 64) × (s.finds < 2 ^ 64)

pub stats_short : (s : Stats) → FitWords s → length (stats_body s) ≤ 256
stats_short s fit =
    let kept = kept_members s.documents s.place s.base in
    let room = room_members s.columns s.free s.retired s.finds in
    both_short kept (room ++ codes "}") 96 160 256 (kept_short s.documents s.place s.base fit.0 fit.1 fit.2)
    (both_short room (codes "}") 140 1 160 (room_short s.columns s.free s.retired s.finds fit.3 fit.4 fit.5 fit.6) (omega arith) (omega arith)) (omega arith)

pub metrics_short : (s : Stats) → FitWords s → length (metrics_body s) ≤ 1024
metrics_short s fit =
    let commits = commit_metrics s.documents s.place s.base in
    let columns = column_metrics s.columns s.free in
    let running = running_metrics s.retired s.finds in
    both_short commits (columns ++ running) 420 540 1024 (commits_short s.documents s.place s.base fit.0 fit.1 fit.2)
    (both_short columns running 260 280 540 (columns_short s.columns s.free fit.3 fit.4) (running_short s.retired s.finds fit.5 fit.6) (omega arith)) (omega arith)

-- what isn't a text is told to a get as to any other request
pub as_object : (id : ℕ) (given : Reply) → ((place : ℕ) (text : List ℕ) → given ≡ reply.Text place text → ⊥) → body_in_shape (shape.Document id) given ≡ body_of_reply given
as_object id (reply.Text place text) other = absurd (other place text refl)
as_object id given other = refl

-- and so what isn't the engine's numbers where metrics are asked for, also of its kind
pub unmeasured : (given : Reply) → ((stats : Stats) → given ≡ reply.Stats stats → ⊥) → body_in_shape shape.Metrics given ≡ body_of_reply given
unmeasured (reply.Stats stats) other = absurd (other stats refl)
unmeasured given other = refl

pub unmeasured_kind : (given : Reply) → ((stats : Stats) → given ≡ reply.Stats stats → ⊥) → kind_of_reply shape.Metrics given ≡ codes "application/json"
unmeasured_kind (reply.Stats stats) other = absurd (other stats refl)
unmeasured_kind given other = refl
