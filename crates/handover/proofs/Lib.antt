mod SameLemmas
mod TellLemmas
