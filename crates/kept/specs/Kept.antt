-- The reply that the fields of a verdict line tell: a violation, any reply.
-- Quotes are from docs/FORMAT.md.
use Rattle.std.specs.Prelude.{ℕ, ◌+◌, ◌-◌, ◌%◌, cond, eqb, ltb, length, Result, Ok, Err}
use Rattle.frame.specs.Refusal.{refusals, refusal_by}
use Rattle.reply.specs.Reply.{reducible, violated, refused, Reply, kind_by}
use Rattle.reply.specs.declared.Violation.{Violation}
use Rattle.line.specs.declared.Fields.{Fields}

-- The highest kind of a line of this check.
abbrev pub last_kind : ℕ
last_kind = 128 + length refusals

-- The violation of a line.
abbrev pub violation_of : Fields → Violation
violation_of f = record {
  kind = kind_by f.kind;
  frame = f.frame;
  thread = record { 0 = f.thread };
  begin = f.begin;
  commit = f.commit;
  locks = f.locks;
}

-- The reply of a line of kind k: reducible, a violation, or a refusal; "Refusal n: kind 80 hexadecimal plus n, frame = place". Of any other kind
-- it is the number alone of a refusal, "which this check does not give" (docs/TOOL.md).
unfoldable pub kept_by : ℕ → Fields → Result Reply ℕ
kept_by k f =
    cond (eqb k 0) (Ok reducible)
    (cond (ltb k 5) (Ok (violated (violation_of f)))
    (cond (ltb k 129) (Err (k % 128))
    (cond (ltb last_kind k) (Err (k % 128)) (Ok (refused (refusal_by (k - 128)) f.frame)))))

abbrev pub kept_reply : Fields → Result Reply ℕ
kept_reply f = kept_by f.kind f
