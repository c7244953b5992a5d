-- A text of at most 4,096 bytes, written into a buffer of that length, stands there whole.
use Prim.Native.Nat.{ℕ, ◌≤◌}
use mathlib.Core.Path.{◌≡◌, ◌∙◌}
use mathlib.Core.List.{List}
use lib.ListN.{length, take, drop, replicate, length-replicate}
use lib.Seq.{take-append_seam}
use Rattle.output.specs.Output.{behind, written}
use Rattle.output.proofs.Laws.{put_fits, length_written}
use Rattle.linereport.specs.LineReport.{line_report}
use Rattle.refusalreport.specs.RefusalReport.{refusal_report}
use Rattle.fits.specs.Fits.{most_text}
use Rattle.fits.proofs.Answers.{texts_fit}

abbrev blank : List ℕ
blank = replicate most_text 0

pub record Whole (t b : List ℕ) (n : ℕ) : Type 0 where
  pub long : n ≡ length t
  pub within : n ≤ length b
  pub part : take n b ≡ t

whole : (t b : List ℕ) (n : ℕ) → length t ≤ most_text → n ≡ behind (length blank) 0 t → b ≡ written blank 0 t → Whole t b n
whole t b n h p e =
    let l : length blank ≡ most_text = length-replicate {A = ℕ} most_text 0 in
    let f = put_fits blank t (rw l h) in
    let k : n ≡ length t = p ∙ f.0 in
    record {
      long = k;
      within = rw (k, e, length_written blank 0 t, l) h;
      part = rw (k, e ∙ f.1) (take-append_seam t (drop (length t) blank));
    }

-- what a line tells, and a refusal, stand whole
pub line_whole : (l ws : List ℕ) {b : List ℕ} {n : ℕ} → n ≡ behind (length blank) 0 (line_report l ws) → b ≡ written blank 0 (line_report l ws)
    → Whole (line_report l ws) b n
line_whole l ws {b} {n} p e = whole (line_report l ws) b n (texts_fit.0 l ws) p e

pub refusal_whole : (r s : ℕ) (t ws : List ℕ) {b : List ℕ} {n : ℕ} → n ≡ behind (length blank) 0 (refusal_report r s t ws)
    → b ≡ written blank 0 (refusal_report r s t ws) → Whole (refusal_report r s t ws) b n
refusal_whole r s t ws {b} {n} p e = whole (refusal_report r s t ws) b n (texts_fit.1 r s t ws) p e
