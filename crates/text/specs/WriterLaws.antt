-- Laws of a writer: one text put behind another is both together.
use Rattle.std.specs.Prelude.{◌≡◌, refl, List, [], ◌++◌, ℕ, ◌≤◌, length, take}
use Rattle.std.proofs.Common.{◌∙◌}
use Rattle.text.specs.declared.Writer.{Writer}
use Rattle.text.specs.PutLaws.{put_nothing, put_more, put_front}
use Rattle.text.specs.Writer.{Puts}

-- No text changes nothing.
pub puts_nothing : (w : Writer) → w.at ≤ length w.out.now → Puts w [] w
puts_nothing w room = record { put = put_nothing _ _ room; as_many = refl; same_out = refl }

-- One text behind another is both together.
pub puts_more : {old between new : Writer} {text more : List ℕ} → Puts old text between → Puts between more new → Puts old (text ++ more) new
puts_more first second = record {
  put = put_more first.put second.put;
  as_many = second.as_many ∙ first.as_many;
  same_out = second.same_out ∙ first.same_out;
}

-- A text that is put to the front stands there, also where the bytes are lent no longer.
pub puts_front : {old new : Writer} {text held : List ℕ} → Puts old text new → old.at ≡ 0 → held ≡ new.out.now → take new.at held ≡ text
puts_front puts front e = rw e (put_front (rw front at puts.put))
