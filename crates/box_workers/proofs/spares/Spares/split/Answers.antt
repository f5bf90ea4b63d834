use Rattle.box_workers.proofs.spares.Spares.split.Goals as goal

pub split_over-lower-requires-clause-room : goal.split_over-lower-requires-clause-room
split_over-lower-requires-clause-room g c = (rw c.replace-below.ensures.value c.requires.room.lower, rw c.replace-above.ensures.value c.requires.room.upper)
