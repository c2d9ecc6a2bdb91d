mod KeptEvents
mod TaskPlaces
mod Words
