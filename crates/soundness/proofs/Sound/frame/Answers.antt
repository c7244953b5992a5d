use Rattle.soundness.proofs.Laws.{sound_decodes}
use Rattle.soundness.proofs.Sound.frame.Goals as goal

pub unwrap-requires : goal.unwrap-requires
unwrap-requires c =
    sound_decodes c.args.self.words.now c.args.self.is_sound c.args.place c.requires c.try_from.result c.try_from.ensures
