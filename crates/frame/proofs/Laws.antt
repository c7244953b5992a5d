-- Laws of decoding: what is decoded is in its ranges, decoding and encoding undo each other, and the parts of a word are those of its frame.
use Rattle.std.specs.Prelude.{Ok, Err, Some, None, Result, List, get_or}
use Prim.Native.Nat.{ℕ, zero, suc, ◌/◌, ◌%◌, ◌<◌, ◌≤◌}
use mathlib.Core.Path.{◌≡◌, refl, ap, ◌∙◌, subst}
use mathlib.Core.Bool.{Bool, true, false}
use native.Mathlib.Omega.{arith}
use lib.Dec.{ltb, leb}
use borrow.Author.Tests.{lt-leb, lt-ltb, ltb-false, ltb-true, leb-false, eqb-true}
use Rattle.laws.proofs.Logic.{never}
use Rattle.frame.specs.declared.Refusal.{Refusal}
use Rattle.frame.specs.Limits.{thread_count, lock_count, variable_count}
use Rattle.frame.specs.Frame.{object_fits, action_of, decode_parts, decode_word, placed, frame_at, split_parts, word_of, encode_parts, encode_frame, ObjectInRange, InRange}
use Rattle.frame.specs.Refusal.{refusal_number, refused_at}
use Rattle.frame.specs.declared.Frame.{Frame}
use Rattle.frame.specs.declared.Action.{Action}
use Rattle.frame.specs.declared.Action.TheVariants.{Acquire, Release, Read, Write, Begin, End}
use Rattle.frame.specs.declared.Refused.{Refused}
use Rattle.frame.specs.declared.Refusal.TheVariants as refusal
use Rattle.frame.specs.declared.Parts.{Parts}

-- what a decoded frame shows of the parts of its word
pub record Shown (op t o : ℕ) (f : Frame) : Type 0 where
  pub low : 1 ≤ op
  pub high : op ≤ 6
  pub thread : t < thread_count
  pub object : object_fits op o ≡ true
  pub frame : f ≡ record { thread = record { 0 = t }; action = action_of op o }

same_frame : (f g : Frame) → ◌≡◌ {A = Result Frame Refusal} (Ok f) (Ok g) → g ≡ f
same_frame f g e = cc

pub shown : (op t o : ℕ) (f : Frame) → decode_parts op t o ≡ Ok f → Shown op t o f
unfolding decode_parts
shown op t o f e = go (ltb op 1) refl (ltb 6 op) refl (leb thread_count t) refl (object_fits op o) refl
  where
    go : (a : Bool) → ltb op 1 ≡ a → (b : Bool) → ltb 6 op ≡ b → (d : Bool) → leb thread_count t ≡ d → (g : Bool) → object_fits op o ≡ g → Shown op t o f
    go true p b q d r g u = let z : ◌≡◌ {A = Result Frame Refusal} (Err refusal.Operation) (Ok f) = rw p at e in never (cc)
    go false p true q d r g u = let z : ◌≡◌ {A = Result Frame Refusal} (Err refusal.Operation) (Ok f) = rw (p, q) at e in never (cc)
    go false p false q true r g u = let z : ◌≡◌ {A = Result Frame Refusal} (Err refusal.Thread) (Ok f) = rw (p, q, r) at e in never (cc)
    go false p false q false r false u = let z : ◌≡◌ {A = Result Frame Refusal} (Err refusal.Object) (Ok f) = rw (p, q, r, u) at e in never (cc)
    go false p false q false r true u = record {
      low = ltb-false op 1 p;
      high = ltb-false 6 op q;
      thread = leb-false thread_count t r;
      object = u;
      frame = same_frame _ _ (rw (p, q, r, u) at e);
    }

-- the six operations
pub data Operation : ℕ → Type 0 where
  acquire : Operation 1
  release : Operation 2
  read : Operation 3
  write : Operation 4
  begin : Operation 5
  end : Operation 6

pub operation : (op : ℕ) → 1 ≤ op → op ≤ 6 → Operation op
operation zero l h = absurd (omega arith)
operation (suc zero) l h = acquire
operation (suc (suc zero)) l h = release
operation (suc (suc (suc zero))) l h = read
operation (suc (suc (suc (suc zero)))) l h = write
operation (suc (suc (suc (suc (suc zero))))) l h = begin
operation (suc (suc (suc (suc (suc (suc zero)))))) l h = end
operation (suc (suc (suc (suc (suc (suc (suc n))))))) l h = absurd (omega arith)

object_fits_lem : {op : ℕ} → Operation op → (o : ℕ) → object_fits op o ≡ true → ObjectInRange (action_of op o)
object_fits_lem acquire o e = omega (arith, ltb-true o lock_count e)
object_fits_lem release o e = omega (arith, ltb-true o lock_count e)
object_fits_lem read o e = omega (arith, ltb-true o variable_count e)
object_fits_lem write o e = omega (arith, ltb-true o variable_count e)
object_fits_lem begin o e = tt
object_fits_lem end o e = tt

-- what is decoded is in its ranges
pub decoded_in_range : (w : ℕ) (f : Frame) → decode_word w ≡ Ok f → InRange f
decoded_in_range w f e =
    let s = shown (w / 16777216) (w / 65536 % 256) (w % 65536) f e in
    let p : InRange (record { thread = record { 0 = w / 65536 % 256 }; action = action_of (w / 16777216) (w % 65536) }) = record {
      thread = omega (arith, s.thread);
      object = object_fits_lem (operation (w / 16777216) s.low s.high) (w % 65536) s.object;
    } in
    rw s.frame p

-- what the parts of a word show: they are in their ranges, and the word decodes as they do
pub record Apart (op t o : ℕ) (p : Parts) : Type 0 where
  pub low : 1 ≤ p.operation
  pub high : p.operation ≤ 6
  pub thread : p.thread.0 < thread_count
  pub object : p.object < variable_count
  pub whole : decode_parts op t o ≡ decode_parts p.operation p.thread.0 p.object

same_parts : (p q : Parts) → Some p ≡ Some q → p ≡ q
same_parts p q e = cc

pub apart : (op t o : ℕ) (p : Parts) → split_parts op t o ≡ Some p → Apart op t o p
unfolding split_parts
apart op t o p e = go (ltb op 1) refl (leb 7 op) refl (leb thread_count t) refl (leb variable_count o) refl
  where
    go : (a : Bool) → ltb op 1 ≡ a → (b : Bool) → leb 7 op ≡ b → (d : Bool) → leb thread_count t ≡ d → (g : Bool) → leb variable_count o ≡ g → Apart op t o p
    go true x b y d z g u = let v : None ≡ Some p = rw x at e in never (cc)
    go false x true y d z g u = let v : None ≡ Some p = rw (x, y) at e in never (cc)
    go false x false y true z g u = let v : None ≡ Some p = rw (x, y, z) at e in never (cc)
    go false x false y false z true u = let v : None ≡ Some p = rw (x, y, z, u) at e in never (cc)
    go false x false y false z false u =
        let v : Apart op t o (record { operation = op; thread = record { 0 = t }; object = o }) = record {
          low = ltb-false op 1 x;
          high = omega (arith, leb-false 7 op y);
          thread = leb-false thread_count t z;
          object = leb-false variable_count o u;
          whole = refl;
        } in
        subst (Apart op t o) (same_parts _ _ (rw (x, y, z, u) at e)) v

encoded : {op : ℕ} → Operation op → (t o : ℕ) → object_fits op o ≡ true → encode_parts t (action_of op o) ≡ word_of op t o
encoded acquire t o e = refl
encoded release t o e = refl
encoded read t o e = refl
encoded write t o e = refl
encoded begin t o e = rw (eqb-true o 0 e)
encoded end t o e = rw (eqb-true o 0 e)

-- encoding what was decoded gives the word
pub encode_decode : (w : ℕ) (f : Frame) → decode_word w ≡ Ok f → encode_frame f ≡ w
encode_decode w f e =
    let s = shown (w / 16777216) (w / 65536 % 256) (w % 65536) f e in
    ap encode_frame s.frame
    ∙ encoded (operation (w / 16777216) s.low s.high) (w / 65536 % 256) (w % 65536) s.object
    ∙ omega arith

parts : (op t o : ℕ) → t < thread_count → o < 65536 → decode_word (word_of op t o) ≡ decode_parts op t o
parts op t o h l =
    let a : word_of op t o / 16777216 ≡ op = omega arith in
    let b : word_of op t o / 65536 % 256 ≡ t = omega arith in
    let d : word_of op t o % 65536 ≡ o = omega arith in
    rw (a, b, d)

decode_parts_lem : (t : ℕ) (a : Action) → t < thread_count → ObjectInRange a → decode_word (encode_parts t a) ≡ Ok (record { thread = record { 0 = t }; action = a })
unfolding decode_parts
decode_parts_lem t (Acquire l) h g = parts 1 t l.0 h (omega arith) ∙ simp (lt-leb thread_count t h, lt-ltb l.0 lock_count g)
decode_parts_lem t (Release l) h g = parts 2 t l.0 h (omega arith) ∙ simp (lt-leb thread_count t h, lt-ltb l.0 lock_count g)
decode_parts_lem t (Read v) h g = parts 3 t v.0 h (omega arith) ∙ simp (lt-leb thread_count t h, lt-ltb v.0 variable_count g)
decode_parts_lem t (Write v) h g = parts 4 t v.0 h (omega arith) ∙ simp (lt-leb thread_count t h, lt-ltb v.0 variable_count g)
decode_parts_lem t Begin h g = parts 5 t 0 h (omega arith) ∙ simp (lt-leb thread_count t h)
decode_parts_lem t End h g = parts 6 t 0 h (omega arith) ∙ simp (lt-leb thread_count t h)

-- decoding what was encoded gives the frame
pub decode_encode : (f : Frame) → InRange f → decode_word (encode_frame f) ≡ Ok f
decode_encode f g = decode_parts_lem f.thread.0 f.action g.thread g.object

-- Every refusal's number is at most 21.
pub number_small : (r : Refusal) → refusal_number r ≤ 21
number_small refusal.Line = omega arith
number_small refusal.TooLong = omega arith
number_small refusal.WordBuffer = omega arith
number_small refusal.Operation = omega arith
number_small refusal.Thread = omega arith
number_small refusal.Object = omega arith
number_small refusal.LockTaken = omega arith
number_small refusal.LockNotHeld = omega arith
number_small refusal.TooDeep = omega arith
number_small refusal.NoOpenBlock = omega arith
number_small refusal.GuardRange = omega arith
number_small refusal.GuardRepeated = omega arith
number_small refusal.Irreducible = omega arith
number_small refusal.OpenBlock = omega arith
number_small refusal.OutputBuffer = omega arith
number_small refusal.SetTable = omega arith
number_small refusal.LineBuffer = omega arith
number_small refusal.VerdictLine = omega arith
number_small refusal.TextBuffer = omega arith
number_small refusal.TooOften = omega arith
number_small refusal.MovesBuffer = omega arith

-- a frame that stands at a place is what its word decodes to, and so is the reason of one that does not
pub at_ok : (ws : List ℕ) (i : ℕ) {f : Frame} → frame_at ws i ≡ Ok f → decode_word (get_or ws i 0) ≡ Ok f
at_ok ws i {f = f} = go (decode_word (get_or ws i 0))
  where
    go : (d : Result Frame Refusal) → placed i d ≡ Ok f → d ≡ Ok f
    go (Ok g) e = let h : g ≡ f = cc in ap Ok h
    go (Err r) e = let z : ◌≡◌ {A = Result Frame Refused} (Err (refused_at r i)) (Ok f) = e in never (cc)

pub at_err : (ws : List ℕ) (i : ℕ) {x : Refused} → frame_at ws i ≡ Err x → (r : Refusal) × (decode_word (get_or ws i 0) ≡ Err r) × (x ≡ refused_at r i)
at_err ws i {x = x} = go (decode_word (get_or ws i 0))
  where
    go : (d : Result Frame Refusal) → placed i d ≡ Err x → (r : Refusal) × (d ≡ Err r) × (x ≡ refused_at r i)
    go (Ok g) e = let z : ◌≡◌ {A = Result Frame Refused} (Ok g) (Err x) = e in never (cc)
    go (Err r) e = (r, refl, let z : ◌≡◌ {A = Result Frame Refused} (Err (refused_at r i)) (Err x) = e in cc)
