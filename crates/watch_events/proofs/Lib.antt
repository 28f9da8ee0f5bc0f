mod EventLemmas
mod ToldLemmas
