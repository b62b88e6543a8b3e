-- Laws that stood in specs/TestLaws, which no proof rests on now.
use Rattle.std.specs.Prelude.{◌≡◌, List, ℕ, ◌+◌, ◌^◌, ◌≤◌, ◌<◌, length, drop}
use Rattle.std.proofs.Common.{sym, ◌∙◌, arith}
use Rattle.replies.specs.declared.Reply.{Reply}
use Rattle.replies.specs.declared.Profile.{Profile}
use Rattle.replies.specs.Replies.{done, moved_by, lowest}
use Rattle.profiles.specs.Profiles.{stride}
use Rattle.streams.specs.Streams.{words_in, throughout}
use Rattle.streams.specs.PartLaws.{throughout_none}
use Rattle.streams.proofs.PartLaws.{throughout_last, throughout_step}
use Rattle.read_stream.specs.Reading.{silent_refusal, silent_first}
use Rattle.read_stream.specs.SilentLaws.{silent_place}
use Rattle.read_stream.specs.TestLaws.{Testable}

-- The place of a refusal in the stream fits: it is that of the word.
pub place_fits : (p : Profile) (w : List ℕ) {r : Reply} {place : ℕ} → r ≡ silent_refusal p w → place < 2 ^ 32 → r.place + place < 2 ^ 64
place_fits p w e l = rw (e, silent_place) (omega arith)

-- The numbers of a part's words from a place on.
abbrev pub silence_from : Profile → ℕ → List ℕ → Reply
silence_from p place part = throughout p (silent_first p) (words_in p (length part)) place part

module _ {p : Profile} {limit : List ℕ} (place : ℕ) (part : List ℕ) (t : Testable p limit part) where
  pub tests_none : length part ≡ 0 → done ≡ silence_from p place part
  tests_none none = rw none (sym (throughout_none p (silent_first p) place part t.range))

  pub tests_last : {here : Reply} → here ≡ moved_by place (silent_first p part) → 0 < length part → length part ≤ p.m → here ≡ silence_from p place part
  tests_last e some last = e ∙ sym (throughout_last p (silent_first p) place part t.range t.words.exact some last)

  pub tests_more : {here further both : Reply} → here ≡ moved_by place (silent_first p part) → p.m < length part
      → further ≡ silence_from p (place + stride p) (drop (stride p) part) → both ≡ lowest here further → both ≡ silence_from p place part
  tests_more e more f g = g ∙ rw (e, f) (sym (throughout_step p (silent_first p) place part t.range t.words.exact more))
