use Rattle.resolvo_store.proofs.store.ClauseStore.value.Goals as goal

pub returns-clause-sound : goal.returns-clause-sound
returns-clause-sound g c = rw (← c.self.view_is) c.self.invariant.consistent.sound
