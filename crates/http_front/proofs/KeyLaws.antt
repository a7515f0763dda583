-- The text that a target has for a search is no longer than the target.
use Rattle.std.proofs.Common.{◌≡◌, ℕ, ◌+◌, ◌≤◌, Bool, true, false, cond, List, [], ◌∷◌, length, Option, Some, None, option_and_then, option_map, refl, subst, arith, length-drop, codes}
use Rattle.std.specs.Prelude.{◌&&◌, ⊤, is_some, not, bytes_eq}
use Rattle.std.specs.List.{after_first, before_first, onto_first, position_or_len, slice_split}
use Rattle.std.specs.Str.{is_utf8}
use Rattle.line_proto.specs.Forms.{number_of}
use Rattle.http_front.specs.Routes.{Keys, Route, Add, Put, Get, Delete, Find, Query, Place, Stats, Metrics, Journal, Recycle, Tune, count_by, count_of, find_by, is_ampersand, is_equals, is_question, journal_by, keys_in, keys_of, no_keys, number_in, query_by, route_by_keys, route_of, route_of_get, route_of_post, route_of_text, tells_ids, text_or_none, with_key, with_piece, with_pieces}

-- what is there is no larger than this
abbrev pub Fits : {A : Type 0} → (A → ℕ) → ℕ → Option A → Type 0
Fits {A} size n o = (x : A) → o ≡ Some x → size x ≤ n

-- nothing is
fits_none : {A : Type 0} (size : A → ℕ) (n : ℕ) → Fits size n None
fits_none size n = λ x is. absurd (cc)

-- one thing is
fits_one : {A : Type 0} (size : A → ℕ) (n : ℕ) (x : A) → size x ≤ n → Fits size n (Some x)
fits_one {A} size n x small = λ y is. let same : x ≡ y = cc in subst (λ (z : A). size z ≤ n) same small

-- so is either of two
either : {A : Type 0} (size : A → ℕ) (n : ℕ) (b : Bool) (o p : Option A) → Fits size n o → Fits size n p → Fits size n (cond b o p)
either size n true o p first other = first
either size n false o p first other = other

-- and what is made of something
bound : {A B : Type 0} (size : A → ℕ) (n : ℕ) (o : Option B) (f : B → Option A) → ((x : B) → o ≡ Some x → Fits size n (f x)) → Fits size n (option_and_then f o)
bound size n None f each = fits_none size n
bound size n (Some x) f each = each x refl

mapped : {A B : Type 0} (size : A → ℕ) (n : ℕ) (o : Option B) (f : B → A) → ((x : B) → size (f x) ≤ n) → Fits size n (option_map f o)
mapped size n None f each = fits_none size n
mapped size n (Some x) f each = fits_one size n (f x) (each x)

-- how long the text of keys is, and that of a route
abbrev text_length : Keys → ℕ
text_length keys = length (text_or_none keys.text)

abbrev pub value_length : Route → ℕ
value_length (Find told value) = length value
value_length (Query told value) = length value
value_length _ = 0

-- one more key
with_key_fits : (n : ℕ) (keys : Keys) (name value : List ℕ) → text_length keys ≤ n → length value ≤ n → Fits text_length n (with_key keys name value)
unfolding with_key
with_key_fits n keys name value old new =
    either text_length n (bytes_eq name (codes "q")) _ _
    (either text_length n (is_some keys.text) _ _ (fits_none text_length n) (fits_one text_length n _ new))
    (either text_length n (bytes_eq name (codes "newest")) _ _
    (bound text_length n (number_of value) _ (λ most is. either text_length n (tells_ids keys.told) _ _ (fits_one text_length n _ old) (fits_none text_length n)))
    (either text_length n (bytes_eq name (codes "oldest")) _ _
    (bound text_length n (number_of value) _ (λ most is. either text_length n (tells_ids keys.told) _ _ (fits_one text_length n _ old) (fits_none text_length n)))
    (either text_length n (bytes_eq name (codes "from")) _ _
    (bound text_length n (number_of value) _ (λ from is. either text_length n (is_some keys.from) _ _ (fits_none text_length n) (fits_one text_length n _ old)))
    (fits_none text_length n))))

-- what stands behind a byte is no longer than the whole
behind : (p : ℕ → Bool) (bytes : List ℕ) → length (after_first p bytes) ≤ length bytes
behind p bytes = omega (arith, length-drop (position_or_len p bytes + 1) bytes)

with_piece_fits : (n : ℕ) (keys : Keys) (piece : List ℕ) → text_length keys ≤ n → length piece ≤ n → Fits text_length n (with_piece keys piece)
unfolding with_piece
with_piece_fits n keys piece old short =
    either text_length n (bytes_eq (before_first is_equals piece) piece) _ _ (fits_none text_length n)
    (with_key_fits n keys (before_first is_equals piece) (after_first is_equals piece) old (omega (arith, short, behind is_equals piece)))

-- pieces of which none is longer than this
abbrev AreShort : ℕ → List (List ℕ) → Type 0
AreShort n [] = ⊤
AreShort n (piece ∷ pieces) = (length piece ≤ n) × AreShort n pieces

with_pieces_fits : (n : ℕ) (keys : Keys) (pieces : List (List ℕ)) → text_length keys ≤ n → AreShort n pieces → Fits text_length n (with_pieces keys pieces)
with_pieces_fits n keys [] old short = fits_one text_length n keys old
with_pieces_fits n keys (piece ∷ pieces) old short =
    bound text_length n (with_piece keys piece) _ (λ more is. with_pieces_fits n more pieces (with_piece_fits n keys piece old short.0 more is) short.1)

short_if : (n : ℕ) (b : Bool) (xs ys : List (List ℕ)) → AreShort n xs → AreShort n ys → AreShort n (cond b xs ys)
short_if n true xs ys first other = first
short_if n false xs ys first other = other

longer : (m n : ℕ) (pieces : List (List ℕ)) → m ≤ n → AreShort m pieces → AreShort n pieces
longer m n [] few short = tt
longer m n (piece ∷ pieces) few short = (omega (arith, few, short.0), longer m n pieces few short.1)

onto_short : (n byte : ℕ) (pieces : List (List ℕ)) → AreShort n pieces → AreShort (n + 1) (onto_first byte pieces)
onto_short n byte [] short = (omega arith, tt)
onto_short n byte (piece ∷ pieces) short = (omega (arith, short.0), longer n (n + 1) pieces (omega arith) short.1)

pieces_short : (bytes : List ℕ) → AreShort (length bytes) (slice_split is_ampersand bytes)
pieces_short [] = (omega arith, tt)
pieces_short (byte ∷ bytes) =
    let parts = slice_split is_ampersand bytes in
    let n = length (byte ∷ bytes) in
    short_if n (is_ampersand byte) ([] ∷ parts) (onto_first byte parts) (omega arith, longer (length bytes) n parts (omega arith) (pieces_short bytes))
    (longer (length bytes + 1) n (onto_first byte parts) (omega arith) (onto_short (length bytes) byte parts (pieces_short bytes)))

-- so are the keys of a query string, and of a target
keys_in_fit : (n : ℕ) (query : List ℕ) → length query ≤ n → Fits text_length n (keys_in query)
unfolding keys_in
keys_in_fit n query few = with_pieces_fits n no_keys (slice_split is_ampersand query) (omega arith) (longer (length query) n (slice_split is_ampersand query) few (pieces_short query))

keys_of_fit : (target : List ℕ) → Fits text_length (length target) (keys_of target)
unfolding keys_of
keys_of_fit target =
    either text_length (length target) (bytes_eq (before_first is_question target) target) _ _ (fits_one text_length (length target) no_keys (omega arith))
    (keys_in_fit (length target) (after_first is_question target) (behind is_question target))

count_fits : (n : ℕ) (text : Option (List ℕ)) → length (text_or_none text) ≤ n → value_length (count_of text) ≤ n
count_fits n None few = few
count_fits n (Some value) few = few

-- and the route of keys
by_keys : (target : List ℕ) (f : Keys → Option Route) → ((keys : Keys) → text_length keys ≤ length target → Fits value_length (length target) (f keys))
    → Fits value_length (length target) (option_and_then f (keys_of target))
by_keys target f each = bound value_length (length target) (keys_of target) f (λ keys is. each keys (keys_of_fit target keys is))

route_by_keys_fits : (target : List ℕ) → Fits value_length (length target) (route_by_keys target)
unfolding route_by_keys
route_by_keys_fits target =
    let n = length target in
    let path = before_first is_question target in
    either value_length n (bytes_eq path (codes "/find")) _ _
    (by_keys target find_by (λ keys few. either value_length n (is_some keys.from) _ _ (fits_none value_length n) (fits_one value_length n _ few)))
    (either value_length n (bytes_eq path (codes "/query")) _ _
    (by_keys target query_by (λ keys few. either value_length n (is_some keys.from) _ _ (fits_none value_length n) (fits_one value_length n _ few)))
    (either value_length n (bytes_eq path (codes "/count")) _ _
    (by_keys target count_by (λ keys few.
    either value_length n (tells_ids keys.told && not (is_some keys.from)) _ _ (fits_one value_length n (count_of keys.text) (count_fits n keys.text few)) (fits_none value_length n)))
    (either value_length n (bytes_eq path (codes "/journal")) _ _
    (by_keys target journal_by (λ keys few.
    either value_length n (tells_ids keys.told && not (is_some keys.text)) _ _ (mapped value_length n keys.from Journal (λ from. omega arith)) (fits_none value_length n)))
    (mapped value_length n (number_in target) Get (λ id. omega arith)))))

-- and each route
pub route_fits : (method target : List ℕ) → Fits value_length (length target) (route_of method target)
unfolding route_of route_of_text route_of_get route_of_post
route_fits method target =
    let n = length target in
    either value_length n (is_utf8 target) _ _
    (either value_length n (bytes_eq method (codes "GET")) _ _
    (either value_length n (bytes_eq target (codes "/place")) _ _ (fits_one value_length n Place (omega arith))
    (either value_length n (bytes_eq target (codes "/stats")) _ _ (fits_one value_length n Stats (omega arith))
    (either value_length n (bytes_eq target (codes "/metrics")) _ _ (fits_one value_length n Metrics (omega arith)) (route_by_keys_fits target))))
    (either value_length n (bytes_eq method (codes "POST")) _ _
    (either value_length n (bytes_eq target (codes "/documents")) _ _ (fits_one value_length n Add (omega arith))
    (either value_length n (bytes_eq target (codes "/recycle")) _ _ (fits_one value_length n Recycle (omega arith))
    (either value_length n (bytes_eq target (codes "/tune")) _ _ (fits_one value_length n Tune (omega arith)) (fits_none value_length n))))
    (either value_length n (bytes_eq method (codes "PUT")) _ _ (mapped value_length n (number_in target) Put (λ id. omega arith))
    (either value_length n (bytes_eq method (codes "DELETE")) _ _ (mapped value_length n (number_in target) Delete (λ id. omega arith)) (fits_none value_length n)))))
    (fits_none value_length n)
