use Rattle.kept_model.proofs.SaveWritable.{writable}
use Rattle.kept_model.proofs.SaveImages.{image_tells}
use Rattle.kept_model.proofs.laws.images_load.Goals as goal

pub returns-clause-writable : goal.returns-clause-writable
returns-clause-writable c = writable

pub returns-clause-state : goal.returns-clause-state
returns-clause-state c = image_tells
