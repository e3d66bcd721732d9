mod TopBits
mod PutIn
