-- Laws of one word more: written behind the stream of the messages before it, it makes the stream of one message more.
use Rattle.std.specs.Prelude.{◌≡◌, ◌&&◌, ℕ, zero, suc, ◌+◌, ◌-◌, ◌*◌, ◌≤◌, ◌<◌, length, take, drop, get_or}
use Rattle.std.proofs.Common.{sym, ◌∙◌, zero-mul, mul-add, suc-mul, pos_of_ne-zero, add-one, sub-one, arith}
use Rattle.std.proofs.Math.Path.{ap}
use Rattle.std.proofs.Math.Bool.{true, and-eq-true_iff}
use mathlib.Core.List.{List, [], ◌∷◌, ◌++◌, map-append}
use Rattle.replies.specs.declared.Profile.{Profile}
use Rattle.patterns.specs.Stream.{bridge, filled, stream_of, joined}
use Rattle.patterns.proofs.JoinLaws.{joined_empty_left}
use Rattle.patterns.proofs.StreamLaws.{stream_joined}
use Rattle.listing.specs.Every.{every}
use Rattle.listing.specs.EveryLaws.{every_append}
use Rattle.profiles.specs.Profiles.{patterns_of, stride, stream_length}
use Rattle.bits.specs.Bits.{bits_of_bytes, messages_in}
use Rattle.streams.specs.FitLaws.{length_and_bridge}
use Rattle.write_stream.specs.Writing.{carrier}
use Rattle.write_stream.specs.Steps.{message_at, carriers, with_stream, Fitting}
use Rattle.write_stream.specs.CarrierLaws.{Carries, number_below, messages_more, length_carrier, carriers_filled, length_written}
use Rattle.write_stream.specs.JoinedLaws.{next_cells}

-- The words of one message more.
carriers_more : (p : Profile) (s : ℕ) (bytes : List ℕ) (k : ℕ) → carriers p s bytes (k + 1) ≡ carriers p s bytes k ++ (carrier p (message_at s bytes k) ∷ [])
carriers_more p s bytes k = rw (add-one k, messages_more s k (bits_of_bytes bytes)) (map-append (carrier p) (messages_in s k (bits_of_bytes bytes)) _)

-- Where there are no words nothing is written.
pub no_words : (p : Profile) (s : ℕ) (bytes lent : List ℕ) → with_stream p s bytes 0 lent ≡ lent
unfolding stream_of messages_in
no_words p s bytes lent = let none : stream_length p 0 ≡ 0 = omega arith in rw none

-- Word k stands k words and bridges in, and ends the stream of k + 1 words.
length_more : (p : Profile) (k : ℕ) → stream_length p (k + 1) ≡ k * stride p + p.m
length_more p k = rw (add-one, sub-one, suc-mul, mul-add) (omega arith)

-- Where there are words before it, it stands one bridge behind them.
place_behind : (p : Profile) (k : ℕ) → 0 < k → k * stride p ≡ stream_length p k + p.x
place_behind p zero some = absurd (omega arith)
place_behind p (suc k) some = sym (length_and_bridge p k)

-- Word k has its bits in the bytes and its cells in the output.
pub record Place (p : Profile) (s k bytes lent : ℕ) : Type 0 where
  pub few : k < 256
  pub held : k * s + s ≤ 8 * bytes
  pub room : k * stride p + p.m ≤ lent

pub place_fits : {p : Profile} {s k bytes lent : ℕ} → Fitting p s (k + 1) bytes lent → Place p s k bytes lent
place_fits {p} {s} {k} f = record { few = omega (arith, f.few); held = rw (add-one k, suc-mul k s) at f.held; room = rw (length_more p k) at f.room }

some_cells : (p : Profile) (k : ℕ) → 0 < k → 0 < p.m → 0 < stream_length p k
some_cells p zero before some = absurd (omega arith)
some_cells p (suc k) before some = rw suc-mul (omega arith)

-- The bridge before word k has its x cells there, and a cell before them.
pub bridge_place : (p : Profile) (k : ℕ) → (k ≡ 0 → ⊥) → 0 < p.m → (p.x ≤ k * stride p) × (0 < k * stride p - p.x)
bridge_place p k more some =
    let before = pos_of_ne-zero more in
    let place = place_behind p k before in
    let cells = some_cells p k before some in
    (omega arith, omega arith)

module _ {p : Profile} {s : ℕ} (bytes : List ℕ) (c : Carries p s) (some : 0 < p.m) (k : ℕ) where
  -- One word more is joined to the stream of those before it.
  stream_more : stream_of (patterns_of p) (carriers p s bytes (k + 1)) ≡ joined (patterns_of p) (stream_of (patterns_of p) (carriers p s bytes k)) (carrier p (message_at s bytes k))
  unfolding stream_of
  stream_more =
      let words = carriers p s bytes k in
      let next = carrier p (message_at s bytes k) ∷ [] in
      let more = carriers_more p s bytes k in
      let all : (every filled words && every filled next) ≡ true = rw (more, every_append filled words next) at (carriers_filled (k + 1) bytes c some) in
      let both = (and-eq-true_iff (every filled words) (every filled next)).0 all in
      rw more (stream_joined (patterns_of p) words next both.0 both.1)

  -- The first word, written to the front.
  pub first_word : (lent : List ℕ) {out after : List ℕ} → k ≡ 0 → out ≡ with_stream p s bytes k lent
      → after ≡ take (k * stride p) out ++ (carrier p (message_at s bytes k) ++ drop (k * stride p + p.m) out)
      → after ≡ with_stream p s bytes (k + 1) lent
  unfolding stream_of messages_in
  first_word lent none e f =
      let start : k * stride p ≡ 0 = rw (none, zero-mul) in
      let whole = e ∙ ap (λ (n : ℕ). with_stream p s bytes n lent) none ∙ no_words p s bytes lent in
      let empty : stream_of (patterns_of p) (carriers p s bytes k) ≡ [] = rw none in
      rw (stream_more, length_more p k, empty, joined_empty_left) (f ∙ rw (whole, start))

  -- A word behind others, and the bridge between them.
  pub next_word : (lent : List ℕ) {out worded after : List ℕ} → (k ≡ 0 → ⊥) → k * stride p + p.m ≤ length out → out ≡ with_stream p s bytes k lent
      → worded ≡ take (k * stride p) out ++ (carrier p (message_at s bytes k) ++ drop (k * stride p + p.m) out)
      → after ≡ take (k * stride p - p.x) worded ++ (bridge (patterns_of p) (get_or worded (k * stride p - p.x - 1) 0) (get_or worded (k * stride p - p.x + p.x) 0) ++ drop (k * stride p - p.x + p.x) worded)
      → after ≡ with_stream p s bytes (k + 1) lent
  next_word lent more room e f g =
      let before = pos_of_ne-zero more in
      let long = length_written k bytes c in
      let word = length_carrier c (number_below s (k * s) bytes) in
      let place = place_behind p k before in
      rw (stream_more, length_more p k)
      (next_cells (patterns_of p) _ _ lent long word (some_cells p k before some) some place room e f g)
