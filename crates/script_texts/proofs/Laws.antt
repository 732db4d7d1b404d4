-- Laws of writing the cues of a table, a key at a time. Assumes nothing.
use Rattle.std.proofs.Common.{◌≡◌, ℕ, ◌+◌, ◌≤◌, ◌<◌, List, ◌++◌, length, get_or, take, drop, ap, ◌∙◌}
use Rattle.std.proofs.Common.{add-one, length-append}
use Rattle.std.proofs.Math.Seq.{drop-cons}
use Rattle.std.proofs.lemmas.List.{take_all}
use Rattle.std.specs.Prelude.{Result}
use Rattle.refusals.specs.declared.Refusal.{Refusal}
use Rattle.buffers.specs.Written.{written_at}
use Rattle.cues.specs.declared.Cue.{Cue}
use Rattle.buffers.proofs.Rest.{Parts}
use Rattle.cues.specs.Cue.{cue_of}
use Rattle.cue_texts.specs.CueText.{cue_text}
use Rattle.scripts.specs.ScriptText.{text_of}

pub text_more : (ks : List ℕ) (i : ℕ) → i < length ks
    → text_of (drop i ks) ≡ cue_text (cue_of (get_or ks i 0)) ++ text_of (drop (i + 1) ks)
unfolding text_of
text_more ks i h = rw (drop-cons ks i 0 h, add-one)

pub text_more_length : (ks : List ℕ) (i : ℕ) → i < length ks
    → length (text_of (drop i ks)) ≡ length (cue_text (cue_of (get_or ks i 0))) + length (text_of (drop (i + 1) ks))
text_more_length ks i h =
    ap length (text_more ks i h) ∙ length-append (cue_text (cue_of (get_or ks i 0))) (text_of (drop (i + 1) ks))

pub text_parts : (ks : List ℕ) (i : ℕ) (c : Cue) → c ≡ cue_of (get_or ks i 0) → i < length ks
    → Parts (text_of (drop i ks)) (cue_text c) (text_of (drop (i + 1) ks))
text_parts ks i c e h = record { are = rw e (text_more ks i h) }

-- what is written of the first 256 keys is written of all, where there are no more
pub written_whole : (buf ks : List ℕ) (at : ℕ) {mid first : List ℕ} {r : Result ℕ Refusal} → first ≡ take 256 ks
    → (r, mid) ≡ written_at buf at (text_of first)
    → record {
      written : (r, mid) ≡ written_at buf at (text_of (take 256 ks));
      whole : length ks ≤ 256 → (r, mid) ≡ written_at buf at (text_of ks);
    }
written_whole buf ks at {mid} {first} q w =
    let by = λ (l : List ℕ). written_at buf at (text_of l) in
    record { written = w ∙ ap by q; whole = λ h. w ∙ ap by (q ∙ take_all 256 ks h) }
