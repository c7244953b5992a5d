-- The verdict by what is wrong with the operation, which leaves the state as it was.
use lib.ListN.{get_or}
use Rattle.instrumented.specs.Rules.{judging_of}
use Rattle.judge.proofs.Laws.{marks, wrong_at_lem}
use Rattle.judge.proofs.judge.Goals as goal

pub returns-in-Ok : goal.returns-in-Ok
returns-in-Ok c =
    let e = c.in-Ok.is in
    record {
      rules = rw e at c.apply.ensures.rules;
      locks = rw e at c.apply.ensures.locks;
    }

pub returns-in-Err : goal.returns-in-Err
returns-in-Err c =
    let a = c.args in
    let s = a.step in
    let p = c.apply in
    let e = c.in-Err.is in
    let f = c.in-Err.fault in
    let j = judging_of a.threads.now.begins a.threads.now.commits a.sets.now in
    let k = judging_of p.new.self.begins p.new.self.commits p.new.sets in
    let w = wrong_at_lem s.place s.thread s.depth (get_or a.threads.now.held s.thread.0 0) s.operation j k f.kind f.locks (rw e at p.ensures.rules) in
    let m = marks f.kind s.place s.thread s.depth (get_or k.begins s.thread.0 0) (get_or k.commits s.thread.0 0) f.locks in
    record {
      rules = rw (c.begin_mark.ensures, c.commit_mark.ensures, m) w;
      locks = rw e at p.ensures.locks;
    }
